use Rattle.tape_terms.proofs.WordLaws.{values-are_words}
use Rattle.tape_terms.proofs.laws.values_are_words.Goals as goal

pub returns : goal.returns
returns c = record { law = values-are_words }
