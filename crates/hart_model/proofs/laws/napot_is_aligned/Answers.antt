use Rattle.hart_model.proofs.PmpLaws.{napot_aligned}
use Rattle.hart_model.proofs.laws.napot_is_aligned.Goals as goal

pub returns : goal.returns
returns c = record { law = napot_aligned }
