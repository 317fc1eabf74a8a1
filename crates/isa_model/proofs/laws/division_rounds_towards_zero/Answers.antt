use Rattle.isa_model.proofs.Division.{divides_towards_zero}
use Rattle.isa_model.proofs.laws.division_rounds_towards_zero.Goals as goal

pub returns : goal.returns
returns c = record { law = divides_towards_zero }
