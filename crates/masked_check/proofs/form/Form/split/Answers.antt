use Rattle.std.proofs.Common.{rules, ◌≡◌, ℕ, List, get_or, slice_get, Some, ap, ◌∙◌, subst}
use Rattle.std.specs.Prelude.{bit_xor}
use Rattle.isa_model.specs.declared.instr.Alu.TheVariants.{Xor}
use Rattle.tape_terms.specs.declared.term.Term.{Term}
use Rattle.tape_terms.specs.declared.term.Term.TheVariants.{Of}
use Rattle.tape_terms.specs.Values.{values, value_of, IsAfter}
use Rattle.tape_terms.proofs.ValueLaws.{value-unfolds}
use Rattle.masked_check.specs.Forms.{form_value, value_on}
use Rattle.masked_check.proofs.Exclusive.{xor-parts}
use Rattle.masked_check.proofs.form.Form.split.Goals as goal

parted : (terms : List Term) (m a b : ℕ) (found : Term) → found ≡ Of Xor a b → slice_get terms m ≡ Some found → IsAfter m found → (old first second third : List ℕ)
    → ((vs : List ℕ) → form_value vs first ≡ bit_xor (get_or vs m 0) (form_value vs old))
    → ((vs : List ℕ) → form_value vs second ≡ bit_xor (get_or vs a 0) (form_value vs first))
    → ((vs : List ℕ) → form_value vs third ≡ bit_xor (get_or vs b 0) (form_value vs second))
    → (t : List ℕ) → value_on terms t third ≡ value_on terms t old
parted terms m a b found what is after old first second third one two three t =
    let vs = values terms t in
    let unfolds : value_of terms t m ≡ bit_xor (value_of terms t a) (value_of terms t b) =
    value-unfolds terms m (Of Xor a b) (is ∙ ap (λ (x : Term). Some x) what) (subst (λ (x : Term). IsAfter m x) what after) t in
    three vs ∙ ap (bit_xor (get_or vs b 0)) (two vs ∙ ap (bit_xor (get_or vs a 0)) (one vs ∙ ap (λ (x : ℕ). bit_xor x (form_value vs old)) unfolds))
    ∙ xor-parts (value_of terms t a) (value_of terms t b) (form_value vs old)

pub returns-in_ok-toggle-3 : goal.returns-in_ok-toggle-3
returns-in_ok-toggle-3 c =
    let w = c.in-Some-Of-Xor-default-default in
    record {
      same = parted c.args.terms.now c.args.atom w.a w.b w.field-0 (search rules) (search rules) w.ensures.after
          c.args.self.now c.toggle.new.self c.toggle-in-Some-Of-Xor-default-default.new.self c.toggle-in-Some-Of-Xor-default-default-2.new.self
          c.in_ok-toggle.ensures.value c.in_ok-toggle-2.ensures.value c.in_ok-toggle-3.ensures.value;
    }
