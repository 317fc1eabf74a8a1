-- At the end of the operands, and at the end of the texts.
use Rattle.std.proofs.Common.{◌<◌, ◌∙◌, ap, sym, arith, length, drop, length-drop, option_copied}
use Rattle.std.proofs.lemmas.List.{drop_all}
use Rattle.asm_line.specs.Pieces.{texts_after}
use Rattle.asm_line.specs.Operands.{have_shapes}
use Rattle.asm_line.proofs.Texts.{have_shapes-none, have_shapes-nil, negated}
use Rattle.asm_line.proofs.fields.have_shapes.Goals as goal

pub returns-in_default : goal.returns-in_default
returns-in_default c =
    let l = c.loop-operand in
    let left = drop l.operand-index c.args.operands.now in
    let some : 0 < length left = rw length-drop (omega arith) in
    record {
      value = sym (l.invariant ∙ ap (λ r. have_shapes left (texts_after (option_copied r))) c.in_default.is ∙ have_shapes-nil left some);
    }

pub returns : goal.returns
returns c =
    let l = c.loop-operand in
    record {
      value = negated _ _ (sym c.is_none.ensures)
          ∙ sym (l.invariant ∙ ap (λ o. have_shapes o (texts_after (option_copied l.rest))) (drop_all l.operand-index c.args.operands.now (omega arith)) ∙ have_shapes-none l.rest);
    }
