-- The assembler's words: the name of each, its operands in their order, and what it makes of them.
use Rattle.std.specs.Prelude.{ℕ, ◌+◌, ◌-◌, ◌/◌, ◌^◌, ◌==◌, if◌then◌else◌, List, [], ◌∷◌, codes, Option, pos, negsuc}
use Rattle.std.specs.List.{find}
use Rattle.std.specs.Str.{bytes_eq}
use Rattle.isa_model.specs.declared.instr.Cmp.{Cmp}
use Rattle.isa_model.specs.declared.instr.Cmp.TheVariants.{Beq, Bne, Blt, Bge, Bltu, Bgeu}
use Rattle.isa_model.specs.declared.instr.LoadKind.TheVariants as loads
use Rattle.isa_model.specs.declared.instr.StoreKind.TheVariants as stores
use Rattle.isa_model.specs.declared.instr.Alu.{Alu}
use Rattle.isa_model.specs.declared.instr.Alu.TheVariants as alus
use Rattle.isa_model.specs.declared.instr.CsrOp.TheVariants as csrs
use Rattle.isa_model.specs.declared.instr.Instr.{Instr}
use Rattle.isa_model.specs.declared.instr.Instr.TheVariants as instrs
use Rattle.isa_model.specs.Bits.{bits, low_word, sign_extend}
use Rattle.isa_model.specs.Encoding.{word_of}
use Rattle.rv_decode.specs.Mnemonics.{branch_name, load_name, store_name, register_name, immediate_name, csr_name, csr_immediate_name}
use Rattle.asm_line.specs.declared.line.Item.{Item}
use Rattle.asm_line.specs.declared.line.Item.TheVariants.{One, Two, JumpTo, BranchTo}
use Rattle.asm_line.specs.declared.fields.Operand.{Operand}
use Rattle.asm_line.specs.declared.fields.Operand.TheVariants.{Rd, Rs1, Rs2, Imm12, Imm20, Shamt, Uimm, Address, Csr, JumpTarget, BranchTarget, Number}
use Rattle.asm_line.specs.declared.fields.Fields.{Fields}
use Rattle.asm_line.specs.declared.fields.Target.{Target}
use Rattle.asm_line.specs.declared.fields.Target.TheVariants.{Distance, Label}
use Rattle.asm_line.specs.declared.mnemonic.ImmediateOp.{ImmediateOp}
use Rattle.asm_line.specs.declared.mnemonic.ImmediateOp.TheVariants as immediates
use Rattle.asm_line.specs.declared.mnemonic.ShiftOp.{ShiftOp}
use Rattle.asm_line.specs.declared.mnemonic.ShiftOp.TheVariants as shifts
use Rattle.asm_line.specs.declared.mnemonic.Pseudo.{Pseudo}
use Rattle.asm_line.specs.declared.mnemonic.Pseudo.TheVariants as pseudos
use Rattle.asm_line.specs.declared.mnemonic.Mnemonic.{Mnemonic}
use Rattle.asm_line.specs.declared.mnemonic.Mnemonic.TheVariants as words
use Rattle.asm_line.specs.Numbers.{is_within}

pub record Row : Type 0 where
  pub name : List ℕ
  pub operands : List Operand
  pub item : Fields → Item

abbrev pub row : List ℕ → List Operand → (Fields → Item) → Row
row name operands item = record { name = name; operands = operands; item = item }

-- one instruction
abbrev pub one : Instr → Item
one instr = One (word_of instr)

abbrev pub jump_to : ℕ → Target → Item
jump_to rd (Distance off) = one (instrs.Jal rd off)
jump_to rd (Label label) = JumpTo rd label

abbrev pub branch_to : Cmp → ℕ → ℕ → Target → Item
branch_to op rs1 rs2 (Distance off) = one (instrs.Branch op rs1 rs2 off)
branch_to op rs1 rs2 (Label label) = BranchTo op rs1 rs2 label

abbrev pub alu_of_immediate : ImmediateOp → Alu
alu_of_immediate immediates.Add = alus.Add
alu_of_immediate immediates.Slt = alus.Slt
alu_of_immediate immediates.Sltu = alus.Sltu
alu_of_immediate immediates.Xor = alus.Xor
alu_of_immediate immediates.Or = alus.Or
alu_of_immediate immediates.And = alus.And

abbrev pub alu_of_shift : ShiftOp → Alu
alu_of_shift shifts.Sll = alus.Sll
alu_of_shift shifts.Srl = alus.Srl
alu_of_shift shifts.Sra = alus.Sra

-- the low 12 bits of a word, and the upper 20 so that adding the low ones as a signed number gives the word
abbrev pub low_part : ℕ → ℕ
low_part word = bits 0 12 word

abbrev pub upper_part : ℕ → ℕ
upper_part word = low_word (word + 2 ^ 11) / 2 ^ 12

-- a word from 12 bits with their sign alone, from the upper 20 alone, or from both
abbrev pub load_word : ℕ → ℕ → Item
load_word rd word =
    if is_within (2 ^ 11) (2 ^ 11 - 1) (sign_extend 32 word) then one (instrs.AluImm alus.Add rd 0 (sign_extend 32 word))
    else if low_part word == 0 then one (instrs.Lui rd (upper_part word))
    else Two (word_of (instrs.Lui rd (upper_part word))) (word_of (instrs.AluImm alus.Add rd rd (sign_extend 12 (low_part word))))

-- the words that stand for other instructions
abbrev pub pseudo_row : Pseudo → Row
pseudo_row pseudos.Nop = row (codes "nop") [] (λ f. one (instrs.AluImm alus.Add 0 0 (pos 0)))
pseudo_row pseudos.Mv = row (codes "mv") (Rd ∷ Rs1 ∷ []) (λ f. one (instrs.AluImm alus.Add f.rd f.rs1 (pos 0)))
pseudo_row pseudos.Not = row (codes "not") (Rd ∷ Rs1 ∷ []) (λ f. one (instrs.AluImm alus.Xor f.rd f.rs1 (negsuc 0)))
pseudo_row pseudos.J = row (codes "j") (JumpTarget ∷ []) (λ f. jump_to 0 f.jump)
pseudo_row pseudos.Ret = row (codes "ret") [] (λ f. one (instrs.Jalr 0 1 (pos 0)))
pseudo_row pseudos.Beqz = row (codes "beqz") (Rs1 ∷ BranchTarget ∷ []) (λ f. branch_to Beq f.rs1 0 f.branch)
pseudo_row pseudos.Bnez = row (codes "bnez") (Rs1 ∷ BranchTarget ∷ []) (λ f. branch_to Bne f.rs1 0 f.branch)
pseudo_row pseudos.Li = row (codes "li") (Rd ∷ Number ∷ []) (λ f. load_word f.rd f.number)

abbrev pub row_of : Mnemonic → Row
row_of words.Lui = row (codes "lui") (Rd ∷ Imm20 ∷ []) (λ f. one (instrs.Lui f.rd f.imm20))
row_of words.Auipc = row (codes "auipc") (Rd ∷ Imm20 ∷ []) (λ f. one (instrs.Auipc f.rd f.imm20))
row_of words.Jal = row (codes "jal") (Rd ∷ JumpTarget ∷ []) (λ f. jump_to f.rd f.jump)
row_of words.Jalr = row (codes "jalr") (Rd ∷ Address ∷ []) (λ f. one (instrs.Jalr f.rd f.rs1 f.imm12))
row_of (words.Branch op) = row (branch_name op) (Rs1 ∷ Rs2 ∷ BranchTarget ∷ []) (λ f. branch_to op f.rs1 f.rs2 f.branch)
row_of (words.Load kind) = row (load_name kind) (Rd ∷ Address ∷ []) (λ f. one (instrs.Load kind f.rd f.rs1 f.imm12))
row_of (words.Store kind) = row (store_name kind) (Rs2 ∷ Address ∷ []) (λ f. one (instrs.Store kind f.rs2 f.rs1 f.imm12))
row_of (words.Immediate op) =
    row (immediate_name (alu_of_immediate op)) (Rd ∷ Rs1 ∷ Imm12 ∷ []) (λ f. one (instrs.AluImm (alu_of_immediate op) f.rd f.rs1 f.imm12))
row_of (words.Shift op) =
    row (immediate_name (alu_of_shift op)) (Rd ∷ Rs1 ∷ Shamt ∷ []) (λ f. one (instrs.AluImm (alu_of_shift op) f.rd f.rs1 (pos f.shamt)))
row_of (words.Register op) = row (register_name op) (Rd ∷ Rs1 ∷ Rs2 ∷ []) (λ f. one (instrs.AluReg op f.rd f.rs1 f.rs2))
row_of words.Fence = row (codes "fence") [] (λ f. One 0x0ff0000f)
row_of words.Ecall = row (codes "ecall") [] (λ f. one instrs.Ecall)
row_of words.Ebreak = row (codes "ebreak") [] (λ f. one instrs.Ebreak)
row_of words.Mret = row (codes "mret") [] (λ f. one instrs.Mret)
row_of (words.Csr op) = row (csr_name op) (Rd ∷ Csr ∷ Rs1 ∷ []) (λ f. one (instrs.Csr op f.rd f.rs1 f.csr))
row_of (words.CsrImmediate op) = row (csr_immediate_name op) (Rd ∷ Csr ∷ Uimm ∷ []) (λ f. one (instrs.CsrImm op f.rd f.uimm f.csr))
row_of words.Word = row (codes ".word") (Number ∷ []) (λ f. One f.number)
row_of (words.Pseudo word) = pseudo_row word

-- every word, once
abbrev pub all_words : List Mnemonic
all_words =
    words.Lui ∷ words.Auipc ∷ words.Jal ∷ words.Jalr
    ∷ words.Branch Beq ∷ words.Branch Bne ∷ words.Branch Blt ∷ words.Branch Bge ∷ words.Branch Bltu ∷ words.Branch Bgeu
    ∷ words.Load loads.B ∷ words.Load loads.H ∷ words.Load loads.W ∷ words.Load loads.Bu ∷ words.Load loads.Hu
    ∷ words.Store stores.B ∷ words.Store stores.H ∷ words.Store stores.W
    ∷ words.Immediate immediates.Add ∷ words.Immediate immediates.Slt ∷ words.Immediate immediates.Sltu
    ∷ words.Immediate immediates.Xor ∷ words.Immediate immediates.Or ∷ words.Immediate immediates.And
    ∷ words.Shift shifts.Sll ∷ words.Shift shifts.Srl ∷ words.Shift shifts.Sra
    ∷ words.Register alus.Add ∷ words.Register alus.Sub ∷ words.Register alus.Sll ∷ words.Register alus.Slt
    ∷ words.Register alus.Sltu ∷ words.Register alus.Xor ∷ words.Register alus.Srl ∷ words.Register alus.Sra
    ∷ words.Register alus.Or ∷ words.Register alus.And
    ∷ words.Register alus.Mul ∷ words.Register alus.Mulh ∷ words.Register alus.Mulhsu ∷ words.Register alus.Mulhu
    ∷ words.Register alus.Div ∷ words.Register alus.Divu ∷ words.Register alus.Rem ∷ words.Register alus.Remu
    ∷ words.Fence ∷ words.Ecall ∷ words.Ebreak ∷ words.Mret
    ∷ words.Csr csrs.Rw ∷ words.Csr csrs.Rs ∷ words.Csr csrs.Rc
    ∷ words.CsrImmediate csrs.Rw ∷ words.CsrImmediate csrs.Rs ∷ words.CsrImmediate csrs.Rc
    ∷ words.Word
    ∷ words.Pseudo pseudos.Nop ∷ words.Pseudo pseudos.Mv ∷ words.Pseudo pseudos.Not ∷ words.Pseudo pseudos.J ∷ words.Pseudo pseudos.Ret ∷ words.Pseudo pseudos.Beqz ∷ words.Pseudo pseudos.Bnez ∷ words.Pseudo pseudos.Li ∷ []

-- the word of a name
abbrev pub mnemonic_of : List ℕ → Option Mnemonic
mnemonic_of name = find (λ word. bytes_eq (row_of word).name name) all_words
