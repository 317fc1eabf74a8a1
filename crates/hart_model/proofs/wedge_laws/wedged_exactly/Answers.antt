use Rattle.hart_model.proofs.WedgesExactly.{wedged_exactly}
use Rattle.hart_model.proofs.wedge_laws.wedged_exactly.Goals as goal

pub returns : goal.returns
returns c = record { law = wedged_exactly }
