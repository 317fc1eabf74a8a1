use Rattle.order_laws.proofs.AsEvents.{coarse-states}
use Rattle.order_laws.proofs.laws.coarse_states_are_cores.Goals as goal

pub returns : goal.returns
returns c = record { cores = coarse-states }
