use Rattle.std.proofs.Common.{rules, ℕ, get_or, ap, ◌∙◌}
use Rattle.isa_model.specs.Bits.{low_word}
use Rattle.masked_check.proofs.forms.Forms.may_cut.Goals as goal

pub returns : goal.returns
returns c = record {
  may = λ yes.
      let both = c.is_apart_from.ensures.apart yes c.args.terms.now c.requires.columns in
      record {
        is = c.is_pivot.ensures.pivot (search rules);
        word = λ t. c.is_word.ensures.word (search rules) t ∙ ap (λ (p : ℕ). low_word (get_or t p 0)) c.place_of_pivot.ensures.value;
        rest_apart = both.0;
        others_apart = both.1;
      };
}
