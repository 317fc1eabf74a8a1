use Rattle.isa_model.proofs.RunLaws.{control_tells}
use Rattle.isa_model.proofs.laws.control_tells_end_kind.Goals as goal

pub returns : goal.returns
returns c = record { law = control_tells }
