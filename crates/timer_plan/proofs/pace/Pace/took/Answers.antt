-- One take more of the plan.
use Rattle.std.proofs.Common.{arith, ap, ◌∙◌}
use Rattle.std.proofs.lemmas.Grind.{common_steps}
use Rattle.timer_plan.specs.Pace.{after_take}
use Rattle.timer_plan.proofs.Paces.{after_take-pace_of}
use Rattle.timer_plan.proofs.pace.Pace.took.Goals as goal

pub returns-clause-pace : goal.returns-clause-pace
returns-clause-pace c = grind (arith, common_steps)

pub returns-clause-of_plan : goal.returns-clause-of_plan
returns-clause-of_plan c = λ plan takes ran e. returns-clause-pace c ∙ ap after_take e ∙ after_take-pace_of plan takes ran
