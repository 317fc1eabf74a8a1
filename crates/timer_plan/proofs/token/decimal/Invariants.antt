-- The bytes so far are digits, and the value is their number up to the cap.
use Rattle.std.proofs.Common.{◌≡◌, min, take}
use Rattle.std.specs.Str.Parse.{AllDigits, digits_value}
use Rattle.timer_plan.proofs.token.decimal.Given as goal

abbrev pub invariant-loop-digit : goal.invariant-loop-digit
invariant-loop-digit l = record {
  value : l.value ≡ min (digits_value 10 (take l.digit-index l.text)) 10000000;
  digits : AllDigits 10 (take l.digit-index l.text);
}
