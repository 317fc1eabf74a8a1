use Rattle.order_laws.proofs.LegalOrders.{harts-come}
use Rattle.order_laws.proofs.laws.harts_come_to_actions.Goals as goal

pub returns : goal.returns
returns c = record { come = harts-come }
