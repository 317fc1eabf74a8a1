-- The instruction of a word, by a table of bit patterns grouped by opcode, as the manual lists them. That the table and the
-- composed words are one relation is the law `encoding_is_table`.
use Rattle.std.specs.Prelude.{◌≡◌, ◌↔◌, ℕ, ◌+◌, ◌*◌, ◌^◌, ◌<◌, ℤ, pos, List, [], ◌∷◌, Option, Some, option_map, option_and_then, find, ◌==◌, Bool}
use Rattle.std.specs.List.{list_all}
use Rattle.isa_model.specs.Bits.{bits, sign_extend}
use Rattle.isa_model.specs.Encoding.{Spells}
use Rattle.isa_model.specs.declared.instr.Cmp.TheVariants.{Beq, Bne, Blt, Bge, Bltu, Bgeu}
use Rattle.isa_model.specs.declared.instr.LoadKind.TheVariants as loads
use Rattle.isa_model.specs.declared.instr.StoreKind.TheVariants as stores
use Rattle.isa_model.specs.declared.instr.Alu.TheVariants.{Add, Sub, Sll, Slt, Sltu, Xor, Srl, Sra, Or, And, Mul, Mulh, Mulhsu, Mulhu, Div, Divu, Rem, Remu}
use Rattle.isa_model.specs.declared.instr.CsrOp.TheVariants.{Rw, Rs, Rc}
use Rattle.isa_model.specs.declared.instr.Instr.{Instr}
use Rattle.isa_model.specs.declared.instr.Instr.TheVariants.{Lui, Auipc, Jal, Jalr, Branch, Load, Store, AluImm, AluReg, Fence, Ecall, Ebreak, Mret, Csr, CsrImm}

-- the bits that are fixed, each as (lowest bit, how many, value), and what the others mean
pub record Row : Type 0 where
  pub fixed : List (ℕ × ℕ × ℕ)
  pub means : ℕ → Instr

abbrev pub is_fit : ℕ → Row → Bool
is_fit word row = list_all (λ f. bits f.0 f.1 word == f.2) row.fixed

abbrev pub rd_field : ℕ → ℕ
rd_field w = bits 7 5 w

abbrev pub rs1_field : ℕ → ℕ
rs1_field w = bits 15 5 w

abbrev pub rs2_field : ℕ → ℕ
rs2_field w = bits 20 5 w

abbrev pub i_immediate : ℕ → ℤ
i_immediate w = sign_extend 12 (bits 20 12 w)

abbrev pub s_immediate : ℕ → ℤ
s_immediate w = sign_extend 12 (2 ^ 5 * bits 25 7 w + bits 7 5 w)

abbrev pub b_immediate : ℕ → ℤ
b_immediate w = sign_extend 13 (2 ^ 12 * bits 31 1 w + 2 ^ 11 * bits 7 1 w + 2 ^ 5 * bits 25 6 w + 2 * bits 8 4 w)

abbrev pub j_immediate : ℕ → ℤ
j_immediate w = sign_extend 21 (2 ^ 20 * bits 31 1 w + 2 ^ 12 * bits 12 8 w + 2 ^ 11 * bits 20 1 w + 2 * bits 21 10 w)

abbrev pub lui_rows : List Row
lui_rows = record { fixed = []; means = λ w. Lui (rd_field w) (bits 12 20 w) } ∷ []

abbrev pub auipc_rows : List Row
auipc_rows = record { fixed = []; means = λ w. Auipc (rd_field w) (bits 12 20 w) } ∷ []

abbrev pub jal_rows : List Row
jal_rows = record { fixed = []; means = λ w. Jal (rd_field w) (j_immediate w) } ∷ []

abbrev pub jalr_rows : List Row
jalr_rows = record { fixed = (12, 3, 0) ∷ []; means = λ w. Jalr (rd_field w) (rs1_field w) (i_immediate w) } ∷ []

abbrev pub branch_rows : List Row
branch_rows =
    record { fixed = (12, 3, 0) ∷ []; means = λ w. Branch Beq (rs1_field w) (rs2_field w) (b_immediate w) }
    ∷ record { fixed = (12, 3, 1) ∷ []; means = λ w. Branch Bne (rs1_field w) (rs2_field w) (b_immediate w) }
    ∷ record { fixed = (12, 3, 4) ∷ []; means = λ w. Branch Blt (rs1_field w) (rs2_field w) (b_immediate w) }
    ∷ record { fixed = (12, 3, 5) ∷ []; means = λ w. Branch Bge (rs1_field w) (rs2_field w) (b_immediate w) }
    ∷ record { fixed = (12, 3, 6) ∷ []; means = λ w. Branch Bltu (rs1_field w) (rs2_field w) (b_immediate w) }
    ∷ record { fixed = (12, 3, 7) ∷ []; means = λ w. Branch Bgeu (rs1_field w) (rs2_field w) (b_immediate w) }
    ∷ []

abbrev pub load_rows : List Row
load_rows =
    record { fixed = (12, 3, 0) ∷ []; means = λ w. Load loads.B (rd_field w) (rs1_field w) (i_immediate w) }
    ∷ record { fixed = (12, 3, 1) ∷ []; means = λ w. Load loads.H (rd_field w) (rs1_field w) (i_immediate w) }
    ∷ record { fixed = (12, 3, 2) ∷ []; means = λ w. Load loads.W (rd_field w) (rs1_field w) (i_immediate w) }
    ∷ record { fixed = (12, 3, 4) ∷ []; means = λ w. Load loads.Bu (rd_field w) (rs1_field w) (i_immediate w) }
    ∷ record { fixed = (12, 3, 5) ∷ []; means = λ w. Load loads.Hu (rd_field w) (rs1_field w) (i_immediate w) }
    ∷ []

abbrev pub store_rows : List Row
store_rows =
    record { fixed = (12, 3, 0) ∷ []; means = λ w. Store stores.B (rs2_field w) (rs1_field w) (s_immediate w) }
    ∷ record { fixed = (12, 3, 1) ∷ []; means = λ w. Store stores.H (rs2_field w) (rs1_field w) (s_immediate w) }
    ∷ record { fixed = (12, 3, 2) ∷ []; means = λ w. Store stores.W (rs2_field w) (rs1_field w) (s_immediate w) }
    ∷ []

abbrev pub alu_imm_rows : List Row
alu_imm_rows =
    record { fixed = (12, 3, 0) ∷ []; means = λ w. AluImm Add (rd_field w) (rs1_field w) (i_immediate w) }
    ∷ record { fixed = (12, 3, 2) ∷ []; means = λ w. AluImm Slt (rd_field w) (rs1_field w) (i_immediate w) }
    ∷ record { fixed = (12, 3, 3) ∷ []; means = λ w. AluImm Sltu (rd_field w) (rs1_field w) (i_immediate w) }
    ∷ record { fixed = (12, 3, 4) ∷ []; means = λ w. AluImm Xor (rd_field w) (rs1_field w) (i_immediate w) }
    ∷ record { fixed = (12, 3, 6) ∷ []; means = λ w. AluImm Or (rd_field w) (rs1_field w) (i_immediate w) }
    ∷ record { fixed = (12, 3, 7) ∷ []; means = λ w. AluImm And (rd_field w) (rs1_field w) (i_immediate w) }
    ∷ record { fixed = (12, 3, 1) ∷ (25, 7, 0) ∷ []; means = λ w. AluImm Sll (rd_field w) (rs1_field w) (pos (bits 20 5 w)) }
    ∷ record { fixed = (12, 3, 5) ∷ (25, 7, 0) ∷ []; means = λ w. AluImm Srl (rd_field w) (rs1_field w) (pos (bits 20 5 w)) }
    ∷ record { fixed = (12, 3, 5) ∷ (25, 7, 0x20) ∷ []; means = λ w. AluImm Sra (rd_field w) (rs1_field w) (pos (bits 20 5 w)) }
    ∷ []

abbrev pub alu_reg_rows : List Row
alu_reg_rows =
    record { fixed = (12, 3, 0) ∷ (25, 7, 0) ∷ []; means = λ w. AluReg Add (rd_field w) (rs1_field w) (rs2_field w) }
    ∷ record { fixed = (12, 3, 0) ∷ (25, 7, 0x20) ∷ []; means = λ w. AluReg Sub (rd_field w) (rs1_field w) (rs2_field w) }
    ∷ record { fixed = (12, 3, 1) ∷ (25, 7, 0) ∷ []; means = λ w. AluReg Sll (rd_field w) (rs1_field w) (rs2_field w) }
    ∷ record { fixed = (12, 3, 2) ∷ (25, 7, 0) ∷ []; means = λ w. AluReg Slt (rd_field w) (rs1_field w) (rs2_field w) }
    ∷ record { fixed = (12, 3, 3) ∷ (25, 7, 0) ∷ []; means = λ w. AluReg Sltu (rd_field w) (rs1_field w) (rs2_field w) }
    ∷ record { fixed = (12, 3, 4) ∷ (25, 7, 0) ∷ []; means = λ w. AluReg Xor (rd_field w) (rs1_field w) (rs2_field w) }
    ∷ record { fixed = (12, 3, 5) ∷ (25, 7, 0) ∷ []; means = λ w. AluReg Srl (rd_field w) (rs1_field w) (rs2_field w) }
    ∷ record { fixed = (12, 3, 5) ∷ (25, 7, 0x20) ∷ []; means = λ w. AluReg Sra (rd_field w) (rs1_field w) (rs2_field w) }
    ∷ record { fixed = (12, 3, 6) ∷ (25, 7, 0) ∷ []; means = λ w. AluReg Or (rd_field w) (rs1_field w) (rs2_field w) }
    ∷ record { fixed = (12, 3, 7) ∷ (25, 7, 0) ∷ []; means = λ w. AluReg And (rd_field w) (rs1_field w) (rs2_field w) }
    ∷ record { fixed = (12, 3, 0) ∷ (25, 7, 1) ∷ []; means = λ w. AluReg Mul (rd_field w) (rs1_field w) (rs2_field w) }
    ∷ record { fixed = (12, 3, 1) ∷ (25, 7, 1) ∷ []; means = λ w. AluReg Mulh (rd_field w) (rs1_field w) (rs2_field w) }
    ∷ record { fixed = (12, 3, 2) ∷ (25, 7, 1) ∷ []; means = λ w. AluReg Mulhsu (rd_field w) (rs1_field w) (rs2_field w) }
    ∷ record { fixed = (12, 3, 3) ∷ (25, 7, 1) ∷ []; means = λ w. AluReg Mulhu (rd_field w) (rs1_field w) (rs2_field w) }
    ∷ record { fixed = (12, 3, 4) ∷ (25, 7, 1) ∷ []; means = λ w. AluReg Div (rd_field w) (rs1_field w) (rs2_field w) }
    ∷ record { fixed = (12, 3, 5) ∷ (25, 7, 1) ∷ []; means = λ w. AluReg Divu (rd_field w) (rs1_field w) (rs2_field w) }
    ∷ record { fixed = (12, 3, 6) ∷ (25, 7, 1) ∷ []; means = λ w. AluReg Rem (rd_field w) (rs1_field w) (rs2_field w) }
    ∷ record { fixed = (12, 3, 7) ∷ (25, 7, 1) ∷ []; means = λ w. AluReg Remu (rd_field w) (rs1_field w) (rs2_field w) }
    ∷ []

abbrev pub fence_rows : List Row
fence_rows = record { fixed = (12, 3, 0) ∷ []; means = λ w. Fence w } ∷ []

abbrev pub system_rows : List Row
system_rows =
    record { fixed = (7, 13, 0) ∷ (20, 12, 0x000) ∷ []; means = λ w. Ecall }
    ∷ record { fixed = (7, 13, 0) ∷ (20, 12, 0x001) ∷ []; means = λ w. Ebreak }
    ∷ record { fixed = (7, 13, 0) ∷ (20, 12, 0x302) ∷ []; means = λ w. Mret }
    ∷ record { fixed = (12, 3, 1) ∷ []; means = λ w. Csr Rw (rd_field w) (rs1_field w) (bits 20 12 w) }
    ∷ record { fixed = (12, 3, 2) ∷ []; means = λ w. Csr Rs (rd_field w) (rs1_field w) (bits 20 12 w) }
    ∷ record { fixed = (12, 3, 3) ∷ []; means = λ w. Csr Rc (rd_field w) (rs1_field w) (bits 20 12 w) }
    ∷ record { fixed = (12, 3, 5) ∷ []; means = λ w. CsrImm Rw (rd_field w) (bits 15 5 w) (bits 20 12 w) }
    ∷ record { fixed = (12, 3, 6) ∷ []; means = λ w. CsrImm Rs (rd_field w) (bits 15 5 w) (bits 20 12 w) }
    ∷ record { fixed = (12, 3, 7) ∷ []; means = λ w. CsrImm Rc (rd_field w) (bits 15 5 w) (bits 20 12 w) }
    ∷ []

-- the rows of an opcode
abbrev pub groups : List (ℕ × List Row)
groups =
    (0x37, lui_rows)
    ∷ (0x17, auipc_rows)
    ∷ (0x6f, jal_rows)
    ∷ (0x67, jalr_rows)
    ∷ (0x63, branch_rows)
    ∷ (0x03, load_rows)
    ∷ (0x23, store_rows)
    ∷ (0x13, alu_imm_rows)
    ∷ (0x33, alu_reg_rows)
    ∷ (0x0f, fence_rows)
    ∷ (0x73, system_rows)
    ∷ []

abbrev pub instr_in : List Row → ℕ → Option Instr
instr_in rows word = option_map (λ row. row.means word) (find (is_fit word) rows)

-- the instruction of a word, if it has one
abbrev pub instr_of : ℕ → Option Instr
instr_of word = option_and_then (λ g. instr_in g.1 word) (find (λ g. g.0 == bits 0 7 word) groups)

-- The table has an instruction for a word exactly where the word spells it. So a word spells at most one instruction.
abbrev pub TableIsEncoding : Type 0
TableIsEncoding = (word : ℕ) (instr : Instr) → word < 2 ^ 32 → (instr_of word ≡ Some instr) ↔ Spells word instr
