use Rattle.order_laws.proofs.LegalOrders.{entries-act}
use Rattle.order_laws.proofs.laws.each_entry_acts.Goals as goal

pub returns : goal.returns
returns c = record { acts = entries-act }
