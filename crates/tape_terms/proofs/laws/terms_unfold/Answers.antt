use Rattle.tape_terms.proofs.ValueLaws.{value-unfolds}
use Rattle.tape_terms.proofs.laws.terms_unfold.Goals as goal

pub returns : goal.returns
returns c = record { law = value-unfolds }
