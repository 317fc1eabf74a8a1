use Rattle.hart_model.proofs.UserStepIsAlone.{user_step_is_alone}
use Rattle.hart_model.proofs.user_laws.user_step_is_run_alone.Goals as goal

pub returns : goal.returns
returns c = record { law = user_step_is_alone }
