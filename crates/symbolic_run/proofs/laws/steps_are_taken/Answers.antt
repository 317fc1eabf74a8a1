use Rattle.symbolic_run.proofs.StepsTaken.{steps-taken}
use Rattle.symbolic_run.proofs.laws.steps_are_taken.Goals as goal

pub returns : goal.returns
returns c = record { law = steps-taken }
