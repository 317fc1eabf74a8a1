use Rattle.report_laws.proofs.OfRuns.{run-once}
use Rattle.report_laws.proofs.laws.run_reports_tell_orders.Goals as goal

pub returns : goal.returns
returns c = record { orders = run-once }
