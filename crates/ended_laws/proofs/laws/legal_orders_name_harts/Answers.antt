use Rattle.ended_laws.proofs.Stopping.{legal-names}
use Rattle.ended_laws.proofs.laws.legal_orders_name_harts.Goals as goal

pub returns : goal.returns
returns c = record { harts = legal-names }
