use Rattle.std.proofs.Common.{rules, ◌≡◌, ℕ, ◌<◌, List, [], ◌∷◌, length, get_or, set, ap, sym, ◌∙◌, subst}
use Rattle.std.specs.Prelude.{bit_xor}
use Rattle.std.proofs.lemmas.List.{get_or_read}
use Rattle.tape_terms.specs.declared.term.Term.{Term}
use Rattle.masked_worlds.specs.declared.role.Role.{Role}
use Rattle.masked_worlds.specs.declared.pivot.Pivot.{Pivot}
use Rattle.masked_check.specs.Forms.{form_value, Leads, MayCut}
use Rattle.masked_check.proofs.Cut.{cut-leads}
use Rattle.masked_check.proofs.forms.Forms.cut.Goals as goal

cut_away : (roles : List Role) (terms : List Term) (forms inner : List (List ℕ)) (i m : ℕ) (x copied rest new : List ℕ) (pivot : Pivot) → inner ≡ forms → i < length forms
    → x ≡ get_or forms i x → copied ≡ x → ((vs : List ℕ) → form_value vs rest ≡ bit_xor (get_or vs m 0) (form_value vs copied))
    → MayCut roles terms forms i m rest pivot → new ≡ m ∷ [] → Leads roles terms forms (set inner i new)
cut_away roles terms forms inner i m x copied rest new pivot view low at same value may is =
    let at_i : copied ≡ get_or forms i [] = same ∙ get_or_read forms i x low at [] in
    let there : set forms i (m ∷ []) ≡ set inner i new = (λ k. set (sym view k) i (sym is k)) in
    subst (λ (fs : List (List ℕ)). Leads roles terms forms fs) there
    (cut-leads roles terms forms i m rest pivot low may.is may.word (λ vs. value vs ∙ ap (λ (f : List ℕ). bit_xor (get_or vs m 0) (form_value vs f)) at_i)
    may.rest_apart may.others_apart)

pub returns : goal.returns
returns c = record {
  leads = cut_away c.args.roles.now c.args.terms.now c.args.self.now c.self.inside.list.items c.args.place.0 c.args.place.1 c.index.result.now c.in_ok-rest.rest
      c.toggle.new.self c.in_ok-self-inside.field-0 c.args.pivot (search rules) c.requires.place (search rules) (search rules) c.in_ok-toggle.ensures.value
      (c.may_cut.ensures.may (search rules)) (search rules);
}
