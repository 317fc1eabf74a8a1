-- Bands go in order.
use Rattle.core_model.proofs.BandsInOrder.{bands-go-in-order}
use Rattle.core_model.proofs.laws.bands_go_in_order.Goals as goal

pub returns : goal.returns
returns c = record { law = bands-go-in-order }
