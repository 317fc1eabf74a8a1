use Rattle.ended_laws.proofs.OneHart.{orders-on-boards}
use Rattle.ended_laws.proofs.laws.orders_are_on_boards.Goals as goal

pub returns : goal.returns
returns c = record { orders = orders-on-boards }
