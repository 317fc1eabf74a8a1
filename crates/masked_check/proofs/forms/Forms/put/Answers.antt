use Rattle.std.proofs.Common.{rules, ◌≡◌, ℕ, ◌+◌, ◌<◌, List, [], ◌∷◌, length, get_or, set, slice_get, Some, ap, sym, ◌∙◌, subst, arith}
use Rattle.std.specs.Prelude.{bit_xor}
use Rattle.std.proofs.lemmas.List.{get_or_read}
use Rattle.isa_model.specs.declared.instr.Alu.{Alu}
use Rattle.tape_terms.specs.declared.term.Term.{Term}
use Rattle.tape_terms.specs.declared.term.Term.TheVariants.{Of}
use Rattle.tape_terms.specs.Values.{IsAfter}
use Rattle.tape_terms.proofs.ValueLaws.{value-unfolds}
use Rattle.masked_worlds.specs.declared.role.Role.{Role}
use Rattle.masked_check.specs.Forms.{form_value, Leads}
use Rattle.masked_check.proofs.Steps.{put-leads}
use Rattle.masked_check.proofs.forms.Forms.put.Goals as goal

taken : (terms : List Term) (forms inner : List (List ℕ)) → inner ≡ forms → (i n m a b : ℕ) (op : Alu) (x new : List ℕ) → i < n → n + 1 < length forms → x ≡ get_or forms i x
    → get_or forms n [] ≡ a ∷ [] → get_or forms (n + 1) [] ≡ b ∷ [] → slice_get terms m ≡ Some (Of op a b) → IsAfter m (Of op a b)
    → ((vs : List ℕ) → form_value vs new ≡ bit_xor (get_or vs m 0) (form_value vs x))
    → (roles : List Role) → Leads roles terms forms (set inner i new)
taken terms forms inner view i n m a b op x new low room at first second is after value roles =
    subst (λ (fs : List (List ℕ)). Leads roles terms forms (set fs i new)) (sym view) (put-leads roles terms forms i n (n + 1) m a b op new (omega arith) (omega arith) (omega arith) (λ e. omega arith) (λ e. omega arith)
    first second (value-unfolds terms m (Of op a b) is after)
    (λ vs. value vs ∙ ap (λ (f : List ℕ). bit_xor (get_or vs m 0) (form_value vs f)) (get_or_read forms i x (omega arith) at [])))

pub returns-clause-leads : goal.returns-clause-leads
returns-clause-leads c =
    taken c.args.terms.now c.args.self.now c.self.inside.list.items (search rules) c.args.i c.args.n c.args.term.0 c.args.term.2 c.args.term.3 c.args.term.1 c.index_mut.result.now c.toggle.new.self
    c.requires.place c.requires.room (search rules) c.requires.first c.requires.second c.requires.is c.requires.after c.in_ok-toggle.ensures.value
