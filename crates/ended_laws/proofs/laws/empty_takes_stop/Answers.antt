use Rattle.ended_laws.proofs.Stopping.{empty-stops}
use Rattle.ended_laws.proofs.laws.empty_takes_stop.Goals as goal

pub returns : goal.returns
returns c = record { stop = empty-stops }
