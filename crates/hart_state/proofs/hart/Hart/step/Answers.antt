-- A step that says that it wants a queue action comes to one, and changes nothing; so does a wedged one.
use Rattle.std.proofs.Common.{◌∙◌}
use Rattle.hart_state.proofs.Asks.{wants_asks, wants_keeps, wedged_keeps}
use Rattle.hart_state.proofs.hart.Hart.step.Goals as goal

pub returns-clause-wants : goal.returns-clause-wants
returns-clause-wants g c = λ call is. wants_asks c.args.code.now c.args.self.now call c.step_by_mode.result c.step_by_mode.ensures.did is

pub returns-clause-wants_kept : goal.returns-clause-wants_kept
returns-clause-wants_kept g c = λ call is.
    c.step_by_mode.ensures.hart ∙ wants_keeps c.args.code.now c.args.self.now call c.step_by_mode.result c.step_by_mode.ensures.did is

pub returns-clause-wedged_kept : goal.returns-clause-wedged_kept
returns-clause-wedged_kept g c = λ is.
    c.step_by_mode.ensures.hart ∙ wedged_keeps c.args.code.now c.args.self.now c.step_by_mode.result c.step_by_mode.ensures.did is
