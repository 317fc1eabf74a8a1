use Rattle.order_laws.proofs.LegalOrders.{boards-tell}
use Rattle.order_laws.proofs.laws.boards_tell_orders.Goals as goal

pub returns : goal.returns
returns c = record { order = boards-tell }
