-- The register numbers of an instruction that the table has for a word are below 32, whatever the word.
use Rattle.std.proofs.Common.{◌≡◌, ℕ, ◌<◌, ◌==◌, Bool, true, false, List, [], ◌∷◌, Some, option_map, option_and_then, find, if◌then◌else◌, subst, arith}
use Rattle.isa_model.specs.declared.instr.Instr.{Instr}
use Rattle.isa_model.specs.declared.instr.Instr.TheVariants.{Lui, Auipc, Jal, Jalr, Load, AluImm, AluReg, Csr, CsrImm}
use Rattle.isa_model.specs.Bits.{bits}
use Rattle.isa_model.specs.InstrTable.{Row, is_fit, groups, instr_in, instr_of}
use Rattle.isa_model.specs.Alone.{rs1_of, rs2_of}

-- the number of rd, and 0 for a form without it
abbrev pub rd_of : Instr → ℕ
rd_of (Lui rd imm20) = rd
rd_of (Auipc rd imm20) = rd
rd_of (Jal rd off) = rd
rd_of (Jalr rd rs1 imm) = rd
rd_of (Load kind rd rs1 imm) = rd
rd_of (AluImm op rd rs1 imm) = rd
rd_of (AluReg op rd rs1 rs2) = rd
rd_of (Csr op rd rs1 csr) = rd
rd_of (CsrImm op rd uimm csr) = rd
rd_of instr = 0

-- an instruction whose register numbers are below 32
pub record HasRegisters (instr : Instr) : Type 0 where
  pub rd : rd_of instr < 32
  pub rs1 : rs1_of instr < 32
  pub rs2 : rs2_of instr < 32

-- each row of a list gives such instructions, and each row of each group
abbrev RowsHave : List Row → ℕ → Type 0
RowsHave [] word = Unit {0}
RowsHave (row ∷ rows) word = HasRegisters (row.means word) × RowsHave rows word

abbrev GroupsHave : List (ℕ × List Row) → ℕ → Type 0
GroupsHave [] word = Unit {0}
GroupsHave (group ∷ more) word = RowsHave group.1 word × GroupsHave more word

field_below_32 : (low word : ℕ) → bits low 5 word < 32
field_below_32 low word = omega arith

rows_have : (rows : List Row) (word : ℕ) (instr : Instr) → RowsHave rows word → instr_in rows word ≡ Some instr → HasRegisters instr
rows_have [] word instr have found = absurd cc
rows_have (row ∷ rows) word instr have found = go (is_fit word row) (rows_have rows word instr have.1) found
  where
    go : (b : Bool) → (instr_in rows word ≡ Some instr → HasRegisters instr)
        → option_map (λ (r : Row). r.means word) (if b then Some row else find (is_fit word) rows) ≡ Some instr → HasRegisters instr
    go true later here = let is : row.means word ≡ instr = cc here in subst (λ (i : Instr). HasRegisters i) is have.0
    go false later there = later there

has : (instr : Instr) → rd_of instr < 32 → rs1_of instr < 32 → rs2_of instr < 32 → HasRegisters instr
has instr rd one two = record { rd = rd; rs1 = one; rs2 = two }

groups_have : (word : ℕ) → GroupsHave groups word
groups_have word = grind (arith, field_below_32, has)

groups_named : (gs : List (ℕ × List Row)) (word : ℕ) (instr : Instr) → GroupsHave gs word
    → option_and_then (λ (g : ℕ × List Row). instr_in g.1 word) (find (λ (g : ℕ × List Row). g.0 == bits 0 7 word) gs) ≡ Some instr → HasRegisters instr
groups_named [] word instr have found = absurd cc
groups_named (group ∷ more) word instr have found = go (group.0 == bits 0 7 word) (groups_named more word instr have.1) found
  where
    go : (b : Bool) → (option_and_then (λ (g : ℕ × List Row). instr_in g.1 word) (find (λ (g : ℕ × List Row). g.0 == bits 0 7 word) more) ≡ Some instr → HasRegisters instr)
        → option_and_then (λ (g : ℕ × List Row). instr_in g.1 word) (if b then Some group else find (λ (g : ℕ × List Row). g.0 == bits 0 7 word) more) ≡ Some instr → HasRegisters instr
    go true later here = rows_have group.1 word instr have.0 here
    go false later there = later there

pub decoded_registers : (word : ℕ) (instr : Instr) → instr_of word ≡ Some instr → HasRegisters instr
decoded_registers word instr found = groups_named groups word instr (groups_have word) found
