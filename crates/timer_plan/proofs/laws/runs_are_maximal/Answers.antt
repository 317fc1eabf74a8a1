-- One hart after another, from the back.
use Rattle.timer_plan.proofs.Runs.{runs_maximal}
use Rattle.timer_plan.proofs.laws.runs_are_maximal.Goals as goal

pub returns : goal.returns
returns c = record { maximal = runs_maximal }
