use Rattle.ended_laws.proofs.Quiet.{stopped-over}
use Rattle.ended_laws.proofs.laws.stopped_runs_are_over.Goals as goal

pub returns : goal.returns
returns c = record { over = stopped-over }
