-- One run after another.
use Rattle.timer_plan.proofs.Runs.{maximal_runs}
use Rattle.timer_plan.proofs.laws.maximal_runs_are_unique.Goals as goal

pub returns : goal.returns
returns c = record { runs = maximal_runs }
