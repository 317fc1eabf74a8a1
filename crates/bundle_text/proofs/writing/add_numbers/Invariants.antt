-- What is written so far, and the text of what is left, are the whole.
use Rattle.std.proofs.Common.{◌≡◌, ◌++◌, drop, map, decimal}
use Rattle.bundle_text.specs.Text.{after_blanks}
use Rattle.bundle_text.proofs.writing.add_numbers.Given as goal

abbrev pub invariant-loop-number : goal.invariant-loop-number
invariant-loop-number l = l.out.items ++ after_blanks (map decimal (drop l.number-index l.numbers)) ≡ l.initial.out.items ++ after_blanks (map decimal l.numbers)
