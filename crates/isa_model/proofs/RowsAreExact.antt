-- The rows of each opcode are the encoding relation for words of this opcode: they have an instruction for a word exactly
-- where the word spells it.
use Rattle.std.proofs.lemmas.Grind.{common_steps}
use Rattle.std.proofs.Common.{◌≡◌, ℕ, ◌<◌, ◌^◌, ◌↔◌, Some, List, zero, suc, refl, arith}
use Rattle.isa_model.specs.Bits.{bits}
use Rattle.isa_model.specs.declared.instr.Instr.{Instr}
use Rattle.isa_model.specs.Encoding.{Spells}
use Rattle.isa_model.specs.InstrTable.{Row, instr_in, lui_rows, auipc_rows, jal_rows, jalr_rows, branch_rows, load_rows, store_rows, alu_imm_rows, alu_reg_rows, fence_rows, system_rows}

-- what the rows of an opcode have to be
abbrev pub IsExactly : ℕ → List Row → Type 0
IsExactly opcode rows = (word : ℕ) (instr : Instr) → word < 2 ^ 32 → bits 0 7 word ≡ opcode →
    (instr_in rows word ≡ Some instr) ↔ Spells word instr

pub lui_is_exact : IsExactly 0x37 lui_rows
lui_is_exact word instr bound opcode = grind arith

pub auipc_is_exact : IsExactly 0x17 auipc_rows
auipc_is_exact word instr bound opcode = grind arith

pub jal_is_exact : IsExactly 0x6f jal_rows
jal_is_exact word instr bound opcode = grind arith

pub jalr_is_exact : IsExactly 0x67 jalr_rows
jalr_is_exact word instr bound opcode = grind arith

pub branch_is_exact : IsExactly 0x63 branch_rows
branch_is_exact word instr bound opcode = grind (arith, common_steps)

pub load_is_exact : IsExactly 0x03 load_rows
load_is_exact word instr bound opcode = grind (arith, common_steps)

pub store_is_exact : IsExactly 0x23 store_rows
store_is_exact word instr bound opcode = grind arith

-- at each funct3
alu_imm_at : (n word : ℕ) (instr : Instr) → n ≡ bits 12 3 word → word < 2 ^ 32 → bits 0 7 word ≡ 0x13 →
    (instr_in alu_imm_rows word ≡ Some instr) ↔ Spells word instr
alu_imm_at zero word instr funct3 bound opcode = grind arith
alu_imm_at (suc zero) word instr funct3 bound opcode = grind arith
alu_imm_at (suc (suc zero)) word instr funct3 bound opcode = grind arith
alu_imm_at (suc (suc (suc zero))) word instr funct3 bound opcode = grind arith
alu_imm_at (suc (suc (suc (suc zero)))) word instr funct3 bound opcode = grind arith
alu_imm_at (suc (suc (suc (suc (suc zero))))) word instr funct3 bound opcode = grind arith
alu_imm_at (suc (suc (suc (suc (suc (suc zero)))))) word instr funct3 bound opcode = grind arith
alu_imm_at (suc (suc (suc (suc (suc (suc (suc zero))))))) word instr funct3 bound opcode = grind arith
alu_imm_at (suc (suc (suc (suc (suc (suc (suc (suc n)))))))) word instr funct3 bound opcode = absurd (omega arith)

pub alu_imm_is_exact : IsExactly 0x13 alu_imm_rows
alu_imm_is_exact word instr bound opcode = alu_imm_at (bits 12 3 word) word instr refl bound opcode

-- at each funct3
alu_reg_at : (n word : ℕ) (instr : Instr) → n ≡ bits 12 3 word → word < 2 ^ 32 → bits 0 7 word ≡ 0x33 →
    (instr_in alu_reg_rows word ≡ Some instr) ↔ Spells word instr
alu_reg_at zero word instr funct3 bound opcode = grind arith
alu_reg_at (suc zero) word instr funct3 bound opcode = grind arith
alu_reg_at (suc (suc zero)) word instr funct3 bound opcode = grind arith
alu_reg_at (suc (suc (suc zero))) word instr funct3 bound opcode = grind arith
alu_reg_at (suc (suc (suc (suc zero)))) word instr funct3 bound opcode = grind arith
alu_reg_at (suc (suc (suc (suc (suc zero))))) word instr funct3 bound opcode = grind arith
alu_reg_at (suc (suc (suc (suc (suc (suc zero)))))) word instr funct3 bound opcode = grind arith
alu_reg_at (suc (suc (suc (suc (suc (suc (suc zero))))))) word instr funct3 bound opcode = grind arith
alu_reg_at (suc (suc (suc (suc (suc (suc (suc (suc n)))))))) word instr funct3 bound opcode = absurd (omega arith)

pub alu_reg_is_exact : IsExactly 0x33 alu_reg_rows
alu_reg_is_exact word instr bound opcode = alu_reg_at (bits 12 3 word) word instr refl bound opcode

pub fence_is_exact : IsExactly 0x0f fence_rows
fence_is_exact word instr bound opcode = grind arith

-- at each funct3
system_at : (n word : ℕ) (instr : Instr) → n ≡ bits 12 3 word → word < 2 ^ 32 → bits 0 7 word ≡ 0x73 →
    (instr_in system_rows word ≡ Some instr) ↔ Spells word instr
system_at zero word instr funct3 bound opcode = grind arith
system_at (suc zero) word instr funct3 bound opcode = grind arith
system_at (suc (suc zero)) word instr funct3 bound opcode = grind arith
system_at (suc (suc (suc zero))) word instr funct3 bound opcode = grind arith
system_at (suc (suc (suc (suc zero)))) word instr funct3 bound opcode = grind arith
system_at (suc (suc (suc (suc (suc zero))))) word instr funct3 bound opcode = grind arith
system_at (suc (suc (suc (suc (suc (suc zero)))))) word instr funct3 bound opcode = grind arith
system_at (suc (suc (suc (suc (suc (suc (suc zero))))))) word instr funct3 bound opcode = grind arith
system_at (suc (suc (suc (suc (suc (suc (suc (suc n)))))))) word instr funct3 bound opcode = absurd (omega arith)

pub system_is_exact : IsExactly 0x73 system_rows
system_is_exact word instr bound opcode = system_at (bits 12 3 word) word instr refl bound opcode
