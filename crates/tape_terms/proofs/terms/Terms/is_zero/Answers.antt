use Rattle.std.proofs.Common.{ap, ◌∙◌, eqb-true}
use Rattle.isa_model.specs.Bits.{low_word}
use Rattle.tape_terms.proofs.terms.Terms.is_zero.Goals as goal

pub returns-in-Some : goal.returns-in-Some
returns-in-Some c = record { zero = λ yes tape. c.in-Some.ensures.value tape ∙ ap low_word (eqb-true c.in-Some.word 0 yes) }
