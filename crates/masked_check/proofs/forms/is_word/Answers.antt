use Rattle.std.proofs.Common.{rules, ◌≡◌, ℕ, get_or, slice_get, Some, ap, ◌∙◌, eqb-true}
use Rattle.isa_model.specs.Bits.{low_word}
use Rattle.tape_terms.specs.declared.term.Term.TheVariants.{Word}
use Rattle.tape_terms.proofs.ValueLaws.{value-unfolds}
use Rattle.masked_check.proofs.forms.is_word.Goals as goal

pub returns-in-Some-Word : goal.returns-in-Some-Word
returns-in-Some-Word c =
    let is : slice_get c.args.terms.now c.args.m ≡ Some (Word c.in-Some-Word.at) = search rules in
    record {
      word = λ yes t. value-unfolds c.args.terms.now c.args.m (Word c.in-Some-Word.at) is tt t
          ∙ ap (λ (p : ℕ). low_word (get_or t p 0)) (eqb-true c.in-Some-Word.at c.args.place yes);
    }
