-- The digits so far make some number.
use Rattle.std.proofs.Common.{◌≡◌, ℕ, ◌==◌, drop, length, Some, false}
use Rattle.bundle_text.specs.Numbers.{hex_after}
use Rattle.bundle_text.proofs.numbers.is_hex.Given as goal

abbrev pub invariant-loop-b : goal.invariant-loop-b
invariant-loop-b l = (n : ℕ) × (hex_after (Some 0) l.text ≡ hex_after (Some n) (drop l.b-index l.text)) × ((length l.text == 0) ≡ false)
