use Rattle.kernel_core.proofs.PacedOrders.{orders-grow}
use Rattle.kernel_core.proofs.laws.orders_grow.Goals as goal

pub returns : goal.returns
returns c = record { grow = orders-grow }
