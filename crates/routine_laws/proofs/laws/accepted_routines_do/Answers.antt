use Rattle.routine_laws.proofs.Accepted.{save-accepted, restore-accepted}
use Rattle.routine_laws.proofs.laws.accepted_routines_do.Goals as goal

pub returns : goal.returns
returns c = record { routines = record { saves = save-accepted; restores = restore-accepted } }
