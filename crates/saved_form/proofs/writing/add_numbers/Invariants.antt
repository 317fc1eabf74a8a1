-- What is written so far, and the bytes of what is left, are the whole.
use Rattle.std.proofs.Common.{◌≡◌, ◌++◌, drop}
use Rattle.saved_form.specs.Spelling.{bytes_of}
use Rattle.saved_form.proofs.writing.add_numbers.Given as goal

abbrev pub invariant-loop-number : goal.invariant-loop-number
invariant-loop-number l = l.out.items ++ bytes_of (drop l.number-index l.numbers) ≡ l.initial.out.items ++ bytes_of l.numbers
