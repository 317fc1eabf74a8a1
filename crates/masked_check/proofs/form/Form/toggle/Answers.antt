use Rattle.std.proofs.Common.{rules, ◌≡◌, ℕ, suc, ◌<◌, List, [], ◌∷◌, ◌++◌, length, get_or, take, drop, ap, ◌∙◌}
use Rattle.std.specs.Prelude.{bit_xor}
use Rattle.masked_check.specs.Forms.{form_value}
use Rattle.masked_check.proofs.Exclusive.{form-more, form-without}
use Rattle.masked_check.proofs.form.Form.toggle.Goals as goal

removed : (old new : List ℕ) (i atom : ℕ) → new ≡ take i old ++ drop (suc i) old → i < length old → get_or old i 0 ≡ atom
    → (vs : List ℕ) → form_value vs new ≡ bit_xor (get_or vs atom 0) (form_value vs old)
removed old new i atom is low at vs =
    ap (form_value vs) is ∙ form-without vs old i low ∙ ap (λ (a : ℕ). bit_xor (get_or vs a 0) (form_value vs old)) at

pushed : (old new : List ℕ) (atom : ℕ) → new ≡ old ++ atom ∷ [] → (vs : List ℕ) → form_value vs new ≡ bit_xor (get_or vs atom 0) (form_value vs old)
pushed old new atom is vs = ap (form_value vs) is ∙ form-more vs old atom

pub returns-in-Some : goal.returns-in-Some
returns-in-Some c =
    record { value = removed c.args.self.now c.remove-atom.new.self.items c.in-Some.i c.args.atom (search rules) c.in-Some.ensures.found c.in-Some.ensures.atom }

pub returns-in_ok-push-in-None : goal.returns-in_ok-push-in-None
returns-in_ok-push-in-None c = record { value = pushed c.args.self.now c.push.new.self.items c.args.atom (search rules) }
