-- Operations that give one of their operands.
use Rattle.std.specs.Prelude.{Bool, true, false}
use Rattle.isa_model.specs.declared.instr.Alu.{Alu}
use Rattle.isa_model.specs.declared.instr.Alu.TheVariants.{Add, Sub, Sll, Srl, Xor, Or, And}

-- with 0 as the second operand, the first
abbrev pub keeps_first : Alu → Bool
keeps_first Add = true
keeps_first Sub = true
keeps_first Sll = true
keeps_first Srl = true
keeps_first Xor = true
keeps_first Or = true
keeps_first _ = false

-- with 0 as the first operand, the second
abbrev pub keeps_second : Alu → Bool
keeps_second Add = true
keeps_second Xor = true
keeps_second Or = true
keeps_second _ = false

-- of one word twice, the word
abbrev pub keeps_both : Alu → Bool
keeps_both Or = true
keeps_both And = true
keeps_both _ = false
