use Rattle.ended_laws.proofs.OneHart.{lone-one}
use Rattle.ended_laws.proofs.laws.lone_orders_are_one.Goals as goal

pub returns : goal.returns
returns c = record { one = lone-one }
