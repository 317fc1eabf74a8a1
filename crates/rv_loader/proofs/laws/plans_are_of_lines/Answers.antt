-- By what lies behind it.
use Rattle.rv_loader.proofs.Within.{plans_of_lines}
use Rattle.rv_loader.proofs.laws.plans_are_of_lines.Goals as goal

pub returns : goal.returns
returns c = record { law = plans_of_lines }
