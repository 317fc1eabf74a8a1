-- One hart more.
use Rattle.std.proofs.Common.{◌++◌, ◌∷◌, [], List, sym, ap, ◌∙◌, arith}
use Rattle.hart_model.specs.HartState.{HartState}
use Rattle.core_model.specs.Core.{harts_from}
use Rattle.kernel_core.proofs.Booted.{harts-more}
use Rattle.kernel_core.proofs.boot.harts.Goals as goal

pub loop-number-preserved : goal.loop-number-preserved
loop-number-preserved c =
    let below = c.loop-number-test.true in (
      c.in_ok-push.ensures.items ∙ ap (λ (hs : List HartState). hs ++ c.boot.result ∷ []) c.loop-number.invariant.0
          ∙ ap (λ (h : HartState). harts_from 0 c.loop-number.number c.args.take ++ h ∷ []) c.boot.ensures.boot ∙ sym (harts-more c.loop-number.number c.args.take),
      omega (arith, below),
    )
