use Rattle.report_laws.proofs.OrderOnce.{report_once}
use Rattle.report_laws.proofs.laws.reports_tell_orders.Goals as goal

pub returns : goal.returns
returns c = record { orders = report_once }
