-- Words of known instructions, as LLVM's assembler makes them, and words that are no instruction.
use Rattle.std.proofs.Common.{◌≡◌, None, Some, refl, pos, negsuc}
use Rattle.isa_model.specs.declared.instr.Cmp.TheVariants.{Beq, Bgeu}
use Rattle.isa_model.specs.declared.instr.LoadKind.TheVariants as loads
use Rattle.isa_model.specs.declared.instr.StoreKind.TheVariants as stores
use Rattle.isa_model.specs.declared.instr.Alu.TheVariants.{Add, Sub, Sra, Mul, Mulhsu, Div, Remu}
use Rattle.isa_model.specs.declared.instr.CsrOp.TheVariants.{Rs, Rc}
use Rattle.isa_model.specs.declared.instr.Instr.TheVariants.{Lui, Auipc, Jal, Jalr, Branch, Load, Store, AluImm, AluReg, Fence, Ecall, Ebreak, Mret, Csr, CsrImm}
use Rattle.isa_model.specs.Encoding.{word_of}
use Rattle.isa_model.specs.InstrTable.{instr_of}

-- addi x10, x0, 42
addi : instr_of 0x02a00513 ≡ Some (AluImm Add 10 0 (pos 42))
addi = refl

addi_word : word_of (AluImm Add 10 0 (pos 42)) ≡ 0x02a00513
addi_word = refl

-- nop
nop : instr_of 0x00000013 ≡ Some (AluImm Add 0 0 (pos 0))
nop = refl

nop_word : word_of (AluImm Add 0 0 (pos 0)) ≡ 0x00000013
nop_word = refl

-- li x1, -1
li : instr_of 0xfff00093 ≡ Some (AluImm Add 1 0 (negsuc 0))
li = refl

li_word : word_of (AluImm Add 1 0 (negsuc 0)) ≡ 0xfff00093
li_word = refl

-- srai x1, x2, 5
srai : instr_of 0x40515093 ≡ Some (AluImm Sra 1 2 (pos 5))
srai = refl

srai_word : word_of (AluImm Sra 1 2 (pos 5)) ≡ 0x40515093
srai_word = refl

-- sub x3, x1, x2
sub : instr_of 0x402081b3 ≡ Some (AluReg Sub 3 1 2)
sub = refl

sub_word : word_of (AluReg Sub 3 1 2) ≡ 0x402081b3
sub_word = refl

-- mul x0, x0, x0
mul : instr_of 0x02000033 ≡ Some (AluReg Mul 0 0 0)
mul = refl

mul_word : word_of (AluReg Mul 0 0 0) ≡ 0x02000033
mul_word = refl

-- mulhsu x5, x6, x7
mulhsu : instr_of 0x027322b3 ≡ Some (AluReg Mulhsu 5 6 7)
mulhsu = refl

mulhsu_word : word_of (AluReg Mulhsu 5 6 7) ≡ 0x027322b3
mulhsu_word = refl

-- div x10, x10, x11
div : instr_of 0x02b54533 ≡ Some (AluReg Div 10 10 11)
div = refl

div_word : word_of (AluReg Div 10 10 11) ≡ 0x02b54533
div_word = refl

-- remu x31, x30, x29
remu : instr_of 0x03df7fb3 ≡ Some (AluReg Remu 31 30 29)
remu = refl

remu_word : word_of (AluReg Remu 31 30 29) ≡ 0x03df7fb3
remu_word = refl

-- lui x1, 264
lui : instr_of 0x001080b7 ≡ Some (Lui 1 264)
lui = refl

lui_word : word_of (Lui 1 264) ≡ 0x001080b7
lui_word = refl

-- auipc x5, 0xfffff
auipc : instr_of 0xfffff297 ≡ Some (Auipc 5 0xfffff)
auipc = refl

auipc_word : word_of (Auipc 5 0xfffff) ≡ 0xfffff297
auipc_word = refl

-- ret
ret : instr_of 0x00008067 ≡ Some (Jalr 0 1 (pos 0))
ret = refl

ret_word : word_of (Jalr 0 1 (pos 0)) ≡ 0x00008067
ret_word = refl

-- jalr x2, 6(x1)
jalr : instr_of 0x00608167 ≡ Some (Jalr 2 1 (pos 6))
jalr = refl

jalr_word : word_of (Jalr 2 1 (pos 6)) ≡ 0x00608167
jalr_word = refl

-- jal x1, -2
jal : instr_of 0xfffff0ef ≡ Some (Jal 1 (negsuc 1))
jal = refl

jal_word : word_of (Jal 1 (negsuc 1)) ≡ 0xfffff0ef
jal_word = refl

-- beq x0, x0, -4
beq : instr_of 0xfe000ee3 ≡ Some (Branch Beq 0 0 (negsuc 3))
beq = refl

beq_word : word_of (Branch Beq 0 0 (negsuc 3)) ≡ 0xfe000ee3
beq_word = refl

-- bgeu x2, x3, 2048
bgeu : instr_of 0x003170e3 ≡ Some (Branch Bgeu 2 3 (pos 2048))
bgeu = refl

bgeu_word : word_of (Branch Bgeu 2 3 (pos 2048)) ≡ 0x003170e3
bgeu_word = refl

-- lw x10, 8(x2)
lw : instr_of 0x00812503 ≡ Some (Load loads.W 10 2 (pos 8))
lw = refl

lw_word : word_of (Load loads.W 10 2 (pos 8)) ≡ 0x00812503
lw_word = refl

-- sw x1, 12(x2)
sw : instr_of 0x00112623 ≡ Some (Store stores.W 1 2 (pos 12))
sw = refl

sw_word : word_of (Store stores.W 1 2 (pos 12)) ≡ 0x00112623
sw_word = refl

-- sb x5, -1(x6)
sb : instr_of 0xfe530fa3 ≡ Some (Store stores.B 5 6 (negsuc 0))
sb = refl

sb_word : word_of (Store stores.B 5 6 (negsuc 0)) ≡ 0xfe530fa3
sb_word = refl

-- fence iorw, iorw
fence : instr_of 0x0ff0000f ≡ Some (Fence 0x0ff0000f)
fence = refl

fence_word : word_of (Fence 0x0ff0000f) ≡ 0x0ff0000f
fence_word = refl

-- ecall
ecall : instr_of 0x00000073 ≡ Some Ecall
ecall = refl

ecall_word : word_of Ecall ≡ 0x00000073
ecall_word = refl

-- ebreak
ebreak : instr_of 0x00100073 ≡ Some Ebreak
ebreak = refl

ebreak_word : word_of Ebreak ≡ 0x00100073
ebreak_word = refl

-- mret
mret : instr_of 0x30200073 ≡ Some Mret
mret = refl

mret_word : word_of Mret ≡ 0x30200073
mret_word = refl

-- csrrs x1, mscratch, x0
csrrs : instr_of 0x340020f3 ≡ Some (Csr Rs 1 0 0x340)
csrrs = refl

csrrs_word : word_of (Csr Rs 1 0 0x340) ≡ 0x340020f3
csrrs_word = refl

-- csrrci x0, mstatus, 8
csrrci : instr_of 0x30047073 ≡ Some (CsrImm Rc 0 8 0x300)
csrrci = refl

csrrci_word : word_of (CsrImm Rc 0 8 0x300) ≡ 0x30047073
csrrci_word = refl

-- wfi
wfi : instr_of 0x10500073 ≡ None
wfi = refl

-- fence.i
fence_i : instr_of 0x0000100f ≡ None
fence_i = refl

-- all zeros
zeros : instr_of 0x00000000 ≡ None
zeros = refl

-- all ones
ones : instr_of 0xffffffff ≡ None
ones = refl

-- funct7 2 of OP
operation_2 : instr_of 0x04000033 ≡ None
operation_2 = refl

-- slli x1, x1, 32, which RV32I has not
slli_32 : instr_of 0x02009093 ≡ None
slli_32 = refl

-- ld x1, 0(x1), of RV64I
ld : instr_of 0x0000b083 ≡ None
ld = refl

-- sret
sret : instr_of 0x10200073 ≡ None
sret = refl

-- funct3 4 of SYSTEM
system_4 : instr_of 0x00004073 ≡ None
system_4 = refl
