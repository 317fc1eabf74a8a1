-- Queue actions move tasks and slots.
use Rattle.core_model.proofs.Conservation.{actions-conserve}
use Rattle.core_model.proofs.laws.actions_conserve.Goals as goal

pub returns : goal.returns
returns c = record { law = actions-conserve }
