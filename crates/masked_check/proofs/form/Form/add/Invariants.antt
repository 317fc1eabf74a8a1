use Rattle.std.proofs.Common.{◌≡◌, ℕ, List, take}
use Rattle.std.specs.Prelude.{bit_xor}
use Rattle.masked_check.specs.Forms.{form_value}
use Rattle.masked_check.proofs.form.Form.add.Given as goal

abbrev pub invariant-loop-atom : goal.invariant-loop-atom
invariant-loop-atom l = (vs : List ℕ) → form_value vs l.self ≡ bit_xor (form_value vs (take l.atom-index l.atom-items)) (form_value vs l.initial.self)
