use Rattle.order_laws.proofs.LegalOrders.{entries-few}
use Rattle.order_laws.proofs.laws.entries_are_few.Goals as goal

pub returns : goal.returns
returns c = record { few = entries-few }
