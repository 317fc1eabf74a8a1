use Rattle.std.proofs.Common.{ℕ, List, subst}
use Rattle.masked_check.specs.Shown.{IsShown}
use Rattle.masked_check.specs.Forms.{seen}
use Rattle.masked_check.proofs.Whole.{ones-shown}
use Rattle.masked_check.proofs.check.is_shown.Goals as goal

pub loop-init : goal.loop-init
loop-init c = subst (λ (fs : List (List ℕ)). IsShown c.args.roles.now (seen c.args.terms.now fs)) c.in_ok-forms.ensures.forms

pub loop-preserved : goal.loop-preserved
loop-preserved c = λ shown. c.loop.invariant (c.in_ok-split_sums.ensures.leads c.args.roles.now (c.in_ok-take_step.ensures.leads shown))

pub returns-then-branch : goal.returns-then-branch
returns-then-branch c = record {
  shown = λ yes. ones-shown c.args.roles.now c.args.terms.now c.args.atoms.now
      (c.loop.invariant (c.in_ok-split_sums.ensures.leads c.args.roles.now (c.in_ok-is_done.ensures.shown c.if-branch.true c.args.terms.now c.requires.columns)));
}
