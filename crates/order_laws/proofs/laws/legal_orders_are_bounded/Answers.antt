use Rattle.order_laws.proofs.LegalOrders.{legal-orders}
use Rattle.order_laws.proofs.laws.legal_orders_are_bounded.Goals as goal

pub returns : goal.returns
returns c = record { bounded = legal-orders }
