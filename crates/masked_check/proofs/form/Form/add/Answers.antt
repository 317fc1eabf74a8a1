use Rattle.std.proofs.Common.{◌≡◌, ℕ, ◌+◌, ◌<◌, List, length, get_or, take, ap, sym, ◌∙◌, arith}
use Rattle.std.specs.Prelude.{bit_xor}
use Rattle.std.specs.Int.Bits.{xor_assoc}
use Rattle.std.proofs.lemmas.List.{take_more}
use Rattle.masked_check.specs.Forms.{form_value}
use Rattle.masked_check.proofs.Exclusive.{form-more}
use Rattle.masked_check.proofs.form.Form.add.Goals as goal

more : (other old now new : List ℕ) (i : ℕ) → i < length other → ((vs : List ℕ) → form_value vs now ≡ bit_xor (form_value vs (take i other)) (form_value vs old))
    → ((vs : List ℕ) → form_value vs new ≡ bit_xor (get_or vs (get_or other i 0) 0) (form_value vs now))
    → (vs : List ℕ) → form_value vs new ≡ bit_xor (form_value vs (take (i + 1) other)) (form_value vs old)
more other old now new i low so is vs =
    let a = get_or vs (get_or other i 0) 0 in
    is vs ∙ ap (bit_xor a) (so vs) ∙ sym (xor_assoc a (form_value vs (take i other)) (form_value vs old))
    ∙ ap (λ (x : ℕ). bit_xor x (form_value vs old)) (sym (ap (form_value vs) (take_more other i 0 low) ∙ form-more vs (take i other) (get_or other i 0)))

pub loop-atom-preserved : goal.loop-atom-preserved
loop-atom-preserved c =
    more c.as_slice-atom-items.result.now c.args.self.now c.loop-atom.self c.toggle.new.self c.loop-atom.atom-index
    (omega arith) c.loop-atom.invariant c.in_ok-toggle.ensures.value
