-- The operands so far filled the fields.
use Rattle.std.proofs.Common.{◌≡◌, drop, option_copied}
use Rattle.asm_line.specs.Pieces.{texts_after}
use Rattle.asm_line.specs.Fields.{no_fields}
use Rattle.asm_line.specs.Operands.{with_operands}
use Rattle.asm_line.proofs.fields.fields_of.Given as goal

abbrev pub invariant-loop-operand : goal.invariant-loop-operand
invariant-loop-operand l =
    with_operands l.operands (texts_after (option_copied l.texts)) no_fields
    ≡ with_operands (drop l.operand-index l.operands) (texts_after (option_copied l.rest)) l.fields
