use Rattle.isa_model.proofs.RunLaws.{always_zero}
use Rattle.isa_model.proofs.laws.zero_register_stays.Goals as goal

pub returns : goal.returns
returns c = record { law = always_zero }
