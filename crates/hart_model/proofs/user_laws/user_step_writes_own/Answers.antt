use Rattle.hart_model.proofs.UserStepWrites.{user_step_writes_own}
use Rattle.hart_model.proofs.user_laws.user_step_writes_own.Goals as goal

pub returns : goal.returns
returns c = record { law = user_step_writes_own }
