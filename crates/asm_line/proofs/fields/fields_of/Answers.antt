-- At the end of the texts.
use Rattle.std.proofs.Common.{◌∙◌, ap, sym, drop, option_copied}
use Rattle.asm_line.specs.Pieces.{texts_after}
use Rattle.asm_line.specs.Operands.{with_operands}
use Rattle.asm_line.proofs.Texts.{with_operands-nil}
use Rattle.asm_line.proofs.fields.fields_of.Goals as goal

pub returns-in_default : goal.returns-in_default
returns-in_default c =
    let l = c.loop-operand in
    let left = drop l.operand-index c.args.operands.now in
    record {
      value = sym (l.invariant ∙ ap (λ r. with_operands left (texts_after (option_copied r)) l.fields) c.in_default.is ∙ with_operands-nil left l.fields);
    }
