use Rattle.std.proofs.Common.{rules, ◌≡◌, ℕ, ◌<◌, List, [], length, get_or, set, ap, sym, ◌∙◌}
use Rattle.std.proofs.lemmas.List.{map-set, set-get_or, get_or_read}
use Rattle.tape_terms.specs.declared.term.Term.{Term}
use Rattle.masked_check.specs.Forms.{value_on, seen}
use Rattle.masked_check.proofs.Steps.{seen_at}
use Rattle.masked_check.proofs.forms.Forms.split_at.Goals as goal

kept : (terms : List Term) (forms inner : List (List ℕ)) → inner ≡ forms → (i : ℕ) (x new : List ℕ) → i < length forms → x ≡ get_or forms i x
    → ((t : List ℕ) → value_on terms t new ≡ value_on terms t x) → (t : List ℕ) → seen terms (set inner i new) t ≡ seen terms forms t
kept terms forms inner view i x new low at same t =
    ap (λ (fs : List (List ℕ)). seen terms (set fs i new) t) view
    ∙ map-set (value_on terms t) forms i new
    ∙ ap (set (seen terms forms t) i) (same t ∙ ap (value_on terms t) (get_or_read forms i x low at []) ∙ sym (seen_at terms forms t i low))
    ∙ set-get_or (seen terms forms t) i 0

pub returns-clause-same : goal.returns-clause-same
returns-clause-same c =
    kept c.args.terms.now c.args.self.now c.self.inside.list.items (search rules) c.args.i c.index_mut.result.now c.split.new.self c.requires.place (search rules) c.in_ok-split.ensures.same
