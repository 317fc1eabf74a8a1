-- One hart after another, from the back.
use Rattle.timer_plan.proofs.Runs.{runs_order}
use Rattle.timer_plan.proofs.laws.runs_give_order.Goals as goal

pub returns : goal.returns
returns c = record { order = runs_order }
