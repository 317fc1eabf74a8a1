-- The digits so far make a number, up to the cap.
use Rattle.std.proofs.Common.{◌≡◌, ℕ, min, drop}
use Rattle.bundle_text.specs.Numbers.{decimal_after}
use Rattle.kernel_cli.proofs.command.number_in.Given as goal

abbrev pub invariant-loop-digit : goal.invariant-loop-digit
invariant-loop-digit l = (n : ℕ) × (l.value ≡ min n 18446744073709551616) × (decimal_after 0 l.digits ≡ decimal_after n (drop l.digit-index l.digits))
