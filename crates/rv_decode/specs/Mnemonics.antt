-- The mnemonics of the words that stand for several instructions of one form (unprivileged manual, "RV32/64G Instruction Set
-- Listings").
use Rattle.std.specs.Prelude.{ℕ, List, [], codes}
use Rattle.isa_model.specs.declared.instr.Cmp.{Cmp}
use Rattle.isa_model.specs.declared.instr.Cmp.TheVariants.{Beq, Bne, Blt, Bge, Bltu, Bgeu}
use Rattle.isa_model.specs.declared.instr.LoadKind.{LoadKind}
use Rattle.isa_model.specs.declared.instr.LoadKind.TheVariants as loads
use Rattle.isa_model.specs.declared.instr.StoreKind.{StoreKind}
use Rattle.isa_model.specs.declared.instr.StoreKind.TheVariants as stores
use Rattle.isa_model.specs.declared.instr.Alu.{Alu}
use Rattle.isa_model.specs.declared.instr.Alu.TheVariants.{Add, Sub, Sll, Slt, Sltu, Xor, Srl, Sra, Or, And, Mul, Mulh, Mulhsu, Mulhu, Div, Divu, Rem, Remu}
use Rattle.isa_model.specs.declared.instr.CsrOp.{CsrOp}
use Rattle.isa_model.specs.declared.instr.CsrOp.TheVariants.{Rw, Rs, Rc}

abbrev pub branch_name : Cmp → List ℕ
branch_name Beq = codes "beq"
branch_name Bne = codes "bne"
branch_name Blt = codes "blt"
branch_name Bge = codes "bge"
branch_name Bltu = codes "bltu"
branch_name Bgeu = codes "bgeu"

abbrev pub load_name : LoadKind → List ℕ
load_name loads.B = codes "lb"
load_name loads.H = codes "lh"
load_name loads.W = codes "lw"
load_name loads.Bu = codes "lbu"
load_name loads.Hu = codes "lhu"

abbrev pub store_name : StoreKind → List ℕ
store_name stores.B = codes "sb"
store_name stores.H = codes "sh"
store_name stores.W = codes "sw"

-- of an operation on two registers
abbrev pub register_name : Alu → List ℕ
register_name Add = codes "add"
register_name Sub = codes "sub"
register_name Sll = codes "sll"
register_name Slt = codes "slt"
register_name Sltu = codes "sltu"
register_name Xor = codes "xor"
register_name Srl = codes "srl"
register_name Sra = codes "sra"
register_name Or = codes "or"
register_name And = codes "and"
register_name Mul = codes "mul"
register_name Mulh = codes "mulh"
register_name Mulhsu = codes "mulhsu"
register_name Mulhu = codes "mulhu"
register_name Div = codes "div"
register_name Divu = codes "divu"
register_name Rem = codes "rem"
register_name Remu = codes "remu"

-- of an operation on a register and an immediate; there is none with Sub or an operation of M
abbrev pub immediate_name : Alu → List ℕ
immediate_name Add = codes "addi"
immediate_name Sll = codes "slli"
immediate_name Slt = codes "slti"
immediate_name Sltu = codes "sltiu"
immediate_name Xor = codes "xori"
immediate_name Srl = codes "srli"
immediate_name Sra = codes "srai"
immediate_name Or = codes "ori"
immediate_name And = codes "andi"
immediate_name _ = []

abbrev pub csr_name : CsrOp → List ℕ
csr_name Rw = codes "csrrw"
csr_name Rs = codes "csrrs"
csr_name Rc = codes "csrrc"

-- of a CSR instruction on an immediate
abbrev pub csr_immediate_name : CsrOp → List ℕ
csr_immediate_name Rw = codes "csrrwi"
csr_immediate_name Rs = codes "csrrsi"
csr_immediate_name Rc = codes "csrrci"
