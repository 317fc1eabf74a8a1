use Rattle.masked_worlds.proofs.Tapes.{tapes-once}
use Rattle.masked_worlds.proofs.laws.tapes_come_once.Goals as goal

pub returns : goal.returns
returns c = record { law = tapes-once }
