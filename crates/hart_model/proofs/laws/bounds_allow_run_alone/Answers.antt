use Rattle.hart_model.proofs.PmpLaws.{bounds_allow}
use Rattle.hart_model.proofs.laws.bounds_allow_run_alone.Goals as goal

pub returns : goal.returns
returns c = record { law = bounds_allow }
