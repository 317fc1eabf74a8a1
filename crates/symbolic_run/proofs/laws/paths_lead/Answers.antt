use Rattle.symbolic_run.proofs.StepsTaken.{steps-taken}
use Rattle.symbolic_run.proofs.Paths.{paths-lead}
use Rattle.symbolic_run.proofs.laws.paths_lead.Goals as goal

pub returns : goal.returns
returns c = record { law = paths-lead steps-taken }
