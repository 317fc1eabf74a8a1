-- Forms of instructions, by which the run alone chooses its code.
use Rattle.std.specs.Prelude.{Bool, true, false}
use Rattle.isa_model.specs.declared.instr.Instr.{Instr}
use Rattle.isa_model.specs.declared.instr.Instr.TheVariants.{Jalr, Branch, Load, Store, AluImm, AluReg}

-- a load or a store
abbrev pub is_access : Instr → Bool
is_access (Load kind rd rs1 imm) = true
is_access (Store kind rs2 rs1 imm) = true
is_access _ = false

-- a form with rs1 and without a CSR
abbrev pub is_on_registers : Instr → Bool
is_on_registers (Jalr rd rs1 imm) = true
is_on_registers (Branch op rs1 rs2 off) = true
is_on_registers (AluImm op rd rs1 imm) = true
is_on_registers (AluReg op rd rs1 rs2) = true
is_on_registers instr = is_access instr
