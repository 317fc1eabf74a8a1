use Rattle.order_laws.proofs.AlikeRuns.{run-alike}
use Rattle.order_laws.proofs.laws.alike_bundles_run_alike.Goals as goal

pub returns : goal.returns
returns c = record { alike = run-alike }
