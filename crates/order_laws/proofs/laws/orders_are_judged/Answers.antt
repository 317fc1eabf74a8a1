-- By its entries.
use Rattle.order_laws.proofs.Judged.{orders-are-judged}
use Rattle.order_laws.proofs.laws.orders_are_judged.Goals as goal

pub returns : goal.returns
returns c = record { judged = orders-are-judged }
