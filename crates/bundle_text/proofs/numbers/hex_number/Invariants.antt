-- The digits so far make a number of as many digits.
use Rattle.std.proofs.Common.{◌≡◌, ◌<◌, ◌^◌, ◌==◌, drop, length, Some, false}
use Rattle.bundle_text.specs.Numbers.{hex_after}
use Rattle.bundle_text.proofs.numbers.hex_number.Given as goal

abbrev pub invariant-loop-b : goal.invariant-loop-b
invariant-loop-b l =
    (l.value < 16 ^ l.b-index) × (hex_after (Some 0) l.text ≡ hex_after (Some l.value) (drop l.b-index l.text)) × ((length l.text == 0) ≡ false)
