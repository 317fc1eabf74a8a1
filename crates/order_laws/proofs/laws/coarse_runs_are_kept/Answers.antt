use Rattle.order_laws.proofs.LegalOrders.{coarse-kept}
use Rattle.order_laws.proofs.laws.coarse_runs_are_kept.Goals as goal

pub returns : goal.returns
returns c = record { kept = coarse-kept }
