use Rattle.kernel_cli.proofs.DrillEnds.{drill-one}
use Rattle.kernel_cli.proofs.laws.drill_orders_are_one.Goals as goal

pub returns : goal.returns
returns c = record { one = drill-one }
