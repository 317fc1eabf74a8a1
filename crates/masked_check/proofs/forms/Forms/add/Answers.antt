use Rattle.std.proofs.Common.{rules, ◌≡◌, ◌≢◌, ℕ, ◌<◌, List, [], length, get_or, set, sym, ◌∙◌, subst}
use Rattle.std.specs.Prelude.{bit_xor}
use Rattle.std.proofs.lemmas.List.{get_or_read}
use Rattle.tape_terms.specs.declared.term.Term.{Term}
use Rattle.masked_worlds.specs.declared.role.Role.{Role}
use Rattle.masked_check.specs.Forms.{form_value, Leads}
use Rattle.masked_check.proofs.Steps.{add-leads}
use Rattle.masked_check.proofs.forms.Forms.add.Goals as goal

added : (forms inner : List (List ℕ)) → inner ≡ forms → (to other : ℕ) (x y copied new : List ℕ) → to < length forms → other < length forms → other ≢ to
    → x ≡ get_or forms other x → y ≡ get_or forms to y → copied ≡ x → ((vs : List ℕ) → form_value vs new ≡ bit_xor (form_value vs copied) (form_value vs y))
    → (roles : List Role) (terms : List Term) → Leads roles terms forms (set inner to new)
added forms inner view to other x y copied new low there apart at_other at_to same is roles terms =
    subst (λ (fs : List (List ℕ)). Leads roles terms forms (set fs to new)) (sym view) (add-leads roles terms forms to other new low there apart (λ vs.
    is vs ∙ (λ k. bit_xor (form_value vs ((same ∙ get_or_read forms other x there at_other []) k)) (form_value vs (get_or_read forms to y low at_to [] k)))))

pub returns-clause-leads : goal.returns-clause-leads
returns-clause-leads c =
    added c.args.self.now c.self.inside.list.items (search rules) c.args.to c.args.other c.index.result.now c.index_mut.result.now c.in_ok-added.added c.add.new.self
    c.requires.to c.requires.other c.requires.apart (search rules) (search rules) (search rules) (search rules)
