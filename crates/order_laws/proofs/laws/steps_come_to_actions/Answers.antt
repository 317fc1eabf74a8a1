use Rattle.order_laws.proofs.Stepped.{steps-come}
use Rattle.order_laws.proofs.laws.steps_come_to_actions.Goals as goal

pub returns : goal.returns
returns c = record { come = steps-come }
