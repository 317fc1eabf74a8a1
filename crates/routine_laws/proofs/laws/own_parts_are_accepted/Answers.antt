use Rattle.routine_laws.proofs.OwnAccepted.{save-accepted, restore-accepted}
use Rattle.routine_laws.proofs.laws.own_parts_are_accepted.Goals as goal

pub returns : goal.returns
returns c = record { parts = record { save = save-accepted; restore = restore-accepted } }
