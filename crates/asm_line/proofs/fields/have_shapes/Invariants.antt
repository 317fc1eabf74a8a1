-- The operands so far have texts of their shapes.
use Rattle.std.proofs.Common.{◌≡◌, drop, option_copied}
use Rattle.asm_line.specs.Pieces.{texts_after}
use Rattle.asm_line.specs.Operands.{have_shapes}
use Rattle.asm_line.proofs.fields.have_shapes.Given as goal

abbrev pub invariant-loop-operand : goal.invariant-loop-operand
invariant-loop-operand l =
    have_shapes l.operands (texts_after (option_copied l.texts)) ≡ have_shapes (drop l.operand-index l.operands) (texts_after (option_copied l.rest))
