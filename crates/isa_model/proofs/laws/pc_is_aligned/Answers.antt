use Rattle.isa_model.proofs.RunLaws.{always_aligned}
use Rattle.isa_model.proofs.laws.pc_is_aligned.Goals as goal

pub returns : goal.returns
returns c = record { law = always_aligned }
