-- The word of each instruction, as the manual's formats compose it from the fields (unprivileged manual, "RV32I Base
-- Integer Instruction Set", "M", "Zicsr" and "RV32/64G Instruction Set Listings"; privileged manual for MRET).
use Rattle.std.specs.Prelude.{◌≡◌, ℕ, ◌+◌, ◌*◌, ◌/◌, ◌%◌, ◌^◌, ◌<◌, ℤ, pos, negsuc}
use Rattle.isa_model.specs.Bits.{bits, two_complement, IsInBits}
use Rattle.isa_model.specs.declared.instr.Cmp.{Cmp}
use Rattle.isa_model.specs.declared.instr.Cmp.TheVariants.{Beq, Bne, Blt, Bge, Bltu, Bgeu}
use Rattle.isa_model.specs.declared.instr.LoadKind.{LoadKind}
use Rattle.isa_model.specs.declared.instr.LoadKind.TheVariants as loads
use Rattle.isa_model.specs.declared.instr.StoreKind.{StoreKind}
use Rattle.isa_model.specs.declared.instr.StoreKind.TheVariants as stores
use Rattle.isa_model.specs.declared.instr.Alu.{Alu}
use Rattle.isa_model.specs.declared.instr.Alu.TheVariants.{Add, Sub, Sll, Slt, Sltu, Xor, Srl, Sra, Or, And, Mul, Mulh, Mulhsu, Mulhu, Div, Divu, Rem, Remu}
use Rattle.isa_model.specs.declared.instr.CsrOp.{CsrOp}
use Rattle.isa_model.specs.declared.instr.CsrOp.TheVariants.{Rw, Rs, Rc}
use Rattle.isa_model.specs.declared.instr.Instr.{Instr}
use Rattle.isa_model.specs.declared.instr.Instr.TheVariants.{Lui, Auipc, Jal, Jalr, Branch, Load, Store, AluImm, AluReg, Fence, Ecall, Ebreak, Mret, Csr, CsrImm}

abbrev pub IsEven : ℤ → Type 0
IsEven (pos n) = n % 2 ≡ 0
IsEven (negsuc n) = n % 2 ≡ 1

-- the amount of a shift
abbrev pub IsShiftAmount : ℤ → Type 0
IsShiftAmount (pos n) = n < 32
IsShiftAmount (negsuc n) = ⊥

-- the operations with an immediate, and the range of the immediate
abbrev pub IsImmediate : Alu → ℤ → Type 0
IsImmediate Sll imm = IsShiftAmount imm
IsImmediate Srl imm = IsShiftAmount imm
IsImmediate Sra imm = IsShiftAmount imm
IsImmediate Add imm = IsInBits 11 imm
IsImmediate Slt imm = IsInBits 11 imm
IsImmediate Sltu imm = IsInBits 11 imm
IsImmediate Xor imm = IsInBits 11 imm
IsImmediate Or imm = IsInBits 11 imm
IsImmediate And imm = IsInBits 11 imm
IsImmediate _ imm = ⊥

-- the values of the type that are instructions: each number in the range of its field
abbrev pub IsInstr : Instr → Type 0
IsInstr (Lui rd imm20) = (rd < 32) × (imm20 < 2 ^ 20)
IsInstr (Auipc rd imm20) = (rd < 32) × (imm20 < 2 ^ 20)
IsInstr (Jal rd off) = (rd < 32) × IsInBits 20 off × IsEven off
IsInstr (Jalr rd rs1 imm) = (rd < 32) × (rs1 < 32) × IsInBits 11 imm
IsInstr (Branch op rs1 rs2 off) = (rs1 < 32) × (rs2 < 32) × IsInBits 12 off × IsEven off
IsInstr (Load kind rd rs1 imm) = (rd < 32) × (rs1 < 32) × IsInBits 11 imm
IsInstr (Store kind rs2 rs1 imm) = (rs2 < 32) × (rs1 < 32) × IsInBits 11 imm
IsInstr (AluImm op rd rs1 imm) = (rd < 32) × (rs1 < 32) × IsImmediate op imm
IsInstr (AluReg op rd rs1 rs2) = (rd < 32) × (rs1 < 32) × (rs2 < 32)
IsInstr (Fence word) = (word < 2 ^ 32) × (bits 0 7 word ≡ 0x0f) × (bits 12 3 word ≡ 0)
IsInstr Ecall = Unit {0}
IsInstr Ebreak = Unit {0}
IsInstr Mret = Unit {0}
IsInstr (Csr op rd rs1 csr) = (rd < 32) × (rs1 < 32) × (csr < 2 ^ 12)
IsInstr (CsrImm op rd uimm csr) = (rd < 32) × (uimm < 32) × (csr < 2 ^ 12)

abbrev pub funct3_of_cmp : Cmp → ℕ
funct3_of_cmp Beq = 0
funct3_of_cmp Bne = 1
funct3_of_cmp Blt = 4
funct3_of_cmp Bge = 5
funct3_of_cmp Bltu = 6
funct3_of_cmp Bgeu = 7

abbrev pub funct3_of_load : LoadKind → ℕ
funct3_of_load loads.B = 0
funct3_of_load loads.H = 1
funct3_of_load loads.W = 2
funct3_of_load loads.Bu = 4
funct3_of_load loads.Hu = 5

abbrev pub funct3_of_store : StoreKind → ℕ
funct3_of_store stores.B = 0
funct3_of_store stores.H = 1
funct3_of_store stores.W = 2

abbrev pub funct3_of_alu : Alu → ℕ
funct3_of_alu Add = 0
funct3_of_alu Sub = 0
funct3_of_alu Sll = 1
funct3_of_alu Slt = 2
funct3_of_alu Sltu = 3
funct3_of_alu Xor = 4
funct3_of_alu Srl = 5
funct3_of_alu Sra = 5
funct3_of_alu Or = 6
funct3_of_alu And = 7
funct3_of_alu Mul = 0
funct3_of_alu Mulh = 1
funct3_of_alu Mulhsu = 2
funct3_of_alu Mulhu = 3
funct3_of_alu Div = 4
funct3_of_alu Divu = 5
funct3_of_alu Rem = 6
funct3_of_alu Remu = 7

abbrev pub funct7_of_alu : Alu → ℕ
funct7_of_alu Sub = 0x20
funct7_of_alu Sra = 0x20
funct7_of_alu Mul = 1
funct7_of_alu Mulh = 1
funct7_of_alu Mulhsu = 1
funct7_of_alu Mulhu = 1
funct7_of_alu Div = 1
funct7_of_alu Divu = 1
funct7_of_alu Rem = 1
funct7_of_alu Remu = 1
funct7_of_alu _ = 0

abbrev pub funct3_of_csr : CsrOp → ℕ
funct3_of_csr Rw = 1
funct3_of_csr Rs = 2
funct3_of_csr Rc = 3

-- The formats, from the low bits: opcode 6:0, rd 11:7, funct3 14:12, rs1 19:15, rs2 24:20, funct7 31:25.
abbrev pub r_format : ℕ → ℕ → ℕ → ℕ → ℕ → ℕ → ℕ
r_format opcode rd funct3 rs1 rs2 funct7 =
    opcode + 2 ^ 7 * rd + 2 ^ 12 * funct3 + 2 ^ 15 * rs1 + 2 ^ 20 * rs2 + 2 ^ 25 * funct7

-- the immediate in 31:20
abbrev pub i_format : ℕ → ℕ → ℕ → ℕ → ℕ → ℕ
i_format opcode rd funct3 rs1 imm = opcode + 2 ^ 7 * rd + 2 ^ 12 * funct3 + 2 ^ 15 * rs1 + 2 ^ 20 * imm

-- the immediate in 31:25 and 11:7
abbrev pub s_format : ℕ → ℕ → ℕ → ℕ → ℕ → ℕ
s_format opcode funct3 rs1 rs2 imm =
    opcode + 2 ^ 7 * (imm % 2 ^ 5) + 2 ^ 12 * funct3 + 2 ^ 15 * rs1 + 2 ^ 20 * rs2 + 2 ^ 25 * (imm / 2 ^ 5)

-- the offset's bit 12 in 31, bits 10:5 in 30:25, bits 4:1 in 11:8, bit 11 in 7
abbrev pub b_format : ℕ → ℕ → ℕ → ℕ → ℕ → ℕ
b_format opcode funct3 rs1 rs2 off =
    opcode + 2 ^ 7 * bits 11 1 off + 2 ^ 8 * bits 1 4 off + 2 ^ 12 * funct3 + 2 ^ 15 * rs1 + 2 ^ 20 * rs2
    + 2 ^ 25 * bits 5 6 off + 2 ^ 31 * bits 12 1 off

-- the immediate in 31:12
abbrev pub u_format : ℕ → ℕ → ℕ → ℕ
u_format opcode rd imm20 = opcode + 2 ^ 7 * rd + 2 ^ 12 * imm20

-- the offset's bit 20 in 31, bits 10:1 in 30:21, bit 11 in 20, bits 19:12 in 19:12
abbrev pub j_format : ℕ → ℕ → ℕ → ℕ
j_format opcode rd off =
    opcode + 2 ^ 7 * rd + 2 ^ 12 * bits 12 8 off + 2 ^ 20 * bits 11 1 off + 2 ^ 21 * bits 1 10 off + 2 ^ 31 * bits 20 1 off

-- the word of an instruction
abbrev pub word_of : Instr → ℕ
word_of (Lui rd imm20) = u_format 0x37 rd imm20
word_of (Auipc rd imm20) = u_format 0x17 rd imm20
word_of (Jal rd off) = j_format 0x6f rd (two_complement 21 off)
word_of (Jalr rd rs1 imm) = i_format 0x67 rd 0 rs1 (two_complement 12 imm)
word_of (Branch op rs1 rs2 off) = b_format 0x63 (funct3_of_cmp op) rs1 rs2 (two_complement 13 off)
word_of (Load kind rd rs1 imm) = i_format 0x03 rd (funct3_of_load kind) rs1 (two_complement 12 imm)
word_of (Store kind rs2 rs1 imm) = s_format 0x23 (funct3_of_store kind) rs1 rs2 (two_complement 12 imm)
word_of (AluImm op rd rs1 imm) = i_format 0x13 rd (funct3_of_alu op) rs1 (2 ^ 5 * funct7_of_alu op + two_complement 12 imm)
word_of (AluReg op rd rs1 rs2) = r_format 0x33 rd (funct3_of_alu op) rs1 rs2 (funct7_of_alu op)
word_of (Fence word) = word
word_of Ecall = 0x00000073
word_of Ebreak = 0x00100073
word_of Mret = 0x30200073
word_of (Csr op rd rs1 csr) = i_format 0x73 rd (funct3_of_csr op) rs1 csr
word_of (CsrImm op rd uimm csr) = i_format 0x73 rd (4 + funct3_of_csr op) uimm csr

-- The relation between words and instructions.
pub record Spells (word : ℕ) (instr : Instr) : Type 0 where
  pub in_range : IsInstr instr
  pub is : word ≡ word_of instr
