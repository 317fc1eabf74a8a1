use Rattle.ended_laws.proofs.Stopping.{stopped-empty}
use Rattle.ended_laws.proofs.laws.stopped_runs_end_empty.Goals as goal

pub returns : goal.returns
returns c = record { last = stopped-empty }
