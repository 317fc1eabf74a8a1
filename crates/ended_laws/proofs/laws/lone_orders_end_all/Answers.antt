use Rattle.ended_laws.proofs.OneHart.{lone-ends}
use Rattle.ended_laws.proofs.laws.lone_orders_end_all.Goals as goal

pub returns : goal.returns
returns c = record { ended = lone-ends }
