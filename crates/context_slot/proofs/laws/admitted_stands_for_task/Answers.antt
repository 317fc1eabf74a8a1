use Rattle.context_slot.proofs.Admitted.{admitted-stands}
use Rattle.context_slot.proofs.laws.admitted_stands_for_task.Goals as goal

pub returns : goal.returns
returns c = record { law = admitted-stands }
