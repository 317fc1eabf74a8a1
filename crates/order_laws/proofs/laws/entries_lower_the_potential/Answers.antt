use Rattle.order_laws.proofs.LegalOrders.{entries-lower}
use Rattle.order_laws.proofs.laws.entries_lower_the_potential.Goals as goal

pub returns : goal.returns
returns c = record { lower = entries-lower }
