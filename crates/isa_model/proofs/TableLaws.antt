-- The whole table is the encoding relation.
use Rattle.std.proofs.Common.{◌≡◌, ◌↔◌, ℕ, ◌<◌, ◌^◌, sym, Some, None, Option, IfSome, find, option_and_then, ◌==◌, refl, arith, List, [], ◌∷◌}
use Rattle.isa_model.specs.Bits.{bits}
use Rattle.isa_model.specs.declared.instr.Instr.{Instr}
use Rattle.isa_model.specs.declared.instr.Instr.TheVariants.{Lui, Auipc, Jal, Jalr, Branch, Load, Store, AluImm, AluReg, Fence}
use Rattle.isa_model.specs.Encoding.{Spells, IsInstr, word_of}
use Rattle.isa_model.specs.InstrTable.{TableIsEncoding, instr_of, instr_in, groups, Row}
use Rattle.isa_model.proofs.RowsAreExact.{lui_is_exact, auipc_is_exact, jal_is_exact, jalr_is_exact, branch_is_exact, load_is_exact, store_is_exact, alu_imm_is_exact, alu_reg_is_exact, fence_is_exact, system_is_exact}

-- the opcode of an instruction's word
abbrev opcode_of : Instr → ℕ
opcode_of (Lui rd imm20) = 0x37
opcode_of (Auipc rd imm20) = 0x17
opcode_of (Jal rd off) = 0x6f
opcode_of (Jalr rd rs1 imm) = 0x67
opcode_of (Branch op rs1 rs2 off) = 0x63
opcode_of (Load kind rd rs1 imm) = 0x03
opcode_of (Store kind rs2 rs1 imm) = 0x23
opcode_of (AluImm op rd rs1 imm) = 0x13
opcode_of (AluReg op rd rs1 rs2) = 0x33
opcode_of (Fence word) = 0x0f
opcode_of _ = 0x73

opcode_is : (instr : Instr) (word : ℕ) → Spells word instr → bits 0 7 word ≡ opcode_of instr
opcode_is instr word spelled = grind arith

-- for this word and this instruction each group is the relation, if its opcode is the word's
abbrev AreExact : List (ℕ × List Row) → ℕ → Instr → Type 0
AreExact [] word instr = Unit {0}
AreExact (g ∷ gs) word instr = (bits 0 7 word ≡ g.0 → (instr_in g.1 word ≡ Some instr) ↔ Spells word instr) × AreExact gs word instr

groups_are_exact : (word : ℕ) (instr : Instr) → word < 2 ^ 32 → AreExact groups word instr
groups_are_exact word instr bound = assumption (
  lui_is_exact word instr bound,
  auipc_is_exact word instr bound,
  jal_is_exact word instr bound,
  jalr_is_exact word instr bound,
  branch_is_exact word instr bound,
  load_is_exact word instr bound,
  store_is_exact word instr bound,
  alu_imm_is_exact word instr bound,
  alu_reg_is_exact word instr bound,
  fence_is_exact word instr bound,
  system_is_exact word instr bound,
)

-- what the first group of a word's opcode has for the word, the word spells
reads_in : (gs : List (ℕ × List Row)) (word : ℕ) (instr : Instr) → AreExact gs word instr →
    option_and_then (λ g. instr_in g.1 word) (find (λ g. g.0 == bits 0 7 word) gs) ≡ Some instr → Spells word instr
reads_in [] word instr exact found = absurd (cc)
reads_in (g ∷ gs) word instr exact found = grind (arith, exact.0, reads_in gs word instr exact.1)

-- what the table has for a word, the word spells
reads : (word : ℕ) (instr : Instr) → word < 2 ^ 32 → instr_of word ≡ Some instr → Spells word instr
reads word instr bound = reads_in groups word instr (groups_are_exact word instr bound)

-- what a word spells, the table has for it
is_read : (word : ℕ) (instr : Instr) → word < 2 ^ 32 → Spells word instr → instr_of word ≡ Some instr
is_read word instr bound spelled = grind (arith, opcode_is instr word spelled, groups_are_exact word instr bound)

pub table_is_encoding : TableIsEncoding
table_is_encoding word instr bound = (reads word instr bound, is_read word instr bound)

-- a word has 32 bits
pub word_bound : (instr : Instr) → IsInstr instr → word_of instr < 2 ^ 32
word_bound instr in_range = grind arith

-- the table has each instruction for its word
pub instr_of-word_of : (instr : Instr) → IsInstr instr → instr_of (word_of instr) ≡ Some instr
instr_of-word_of instr in_range = is_read (word_of instr) instr (word_bound instr in_range) (record { in_range = in_range; is = refl })

-- a word spells at most one instruction: both are what the table has for it
pub same_instr : (word : ℕ) (a b : Instr) → Spells word a → Spells word b → a ≡ b
same_instr word a b spells_a spells_b =
    let bound : word < 2 ^ 32 = omega (arith, word_bound a spells_a.in_range, spells_a.is) in
    let has_a : instr_of word ≡ Some a = is_read word a bound spells_a in
    let has_b : instr_of word ≡ Some b = is_read word b bound spells_b in
    cc

is_instr : (word : ℕ) (found : Option Instr) → word < 2 ^ 32 → instr_of word ≡ found → IfSome found IsInstr
is_instr word None bound is = tt
is_instr word (Some instr) bound is = (reads word instr bound is).in_range

-- what the table has for a word is an instruction
pub instr_of-valid : (word : ℕ) → word < 2 ^ 32 → IfSome (instr_of word) IsInstr
instr_of-valid word bound = is_instr word (instr_of word) bound refl

is_word : (word : ℕ) (found : Option Instr) → word < 2 ^ 32 → instr_of word ≡ found → IfSome found (λ instr. word_of instr ≡ word)
is_word word None bound is = tt
is_word word (Some instr) bound is = sym (reads word instr bound is).is

-- and the word is its word
pub word_of-instr_of : (word : ℕ) → word < 2 ^ 32 → IfSome (instr_of word) (λ instr. word_of instr ≡ word)
word_of-instr_of word bound = is_word word (instr_of word) bound refl
