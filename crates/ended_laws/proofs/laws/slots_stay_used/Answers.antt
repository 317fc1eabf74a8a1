use Rattle.ended_laws.proofs.SlotsUsed.{slots-used}
use Rattle.ended_laws.proofs.laws.slots_stay_used.Goals as goal

pub returns : goal.returns
returns c = record { used = slots-used }
