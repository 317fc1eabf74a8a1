-- The digits so far make a number, up to the cap.
use Rattle.std.proofs.Common.{◌≡◌, ℕ, drop, Some}
use Rattle.asm_line.specs.Numbers.{digits_after}
use Rattle.asm_line.specs.Capped.{capped}
use Rattle.asm_line.proofs.numbers.digits_after.Given as goal

abbrev pub invariant-loop-b : goal.invariant-loop-b
invariant-loop-b l = (n : ℕ) × (l.value ≡ capped n) × (digits_after l.base (Some 0) l.text ≡ digits_after l.base (Some n) (drop l.b-index l.text))
