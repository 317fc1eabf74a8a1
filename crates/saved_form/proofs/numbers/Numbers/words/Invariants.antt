-- What is read in all is what was read, and after it what is left.
use Rattle.std.proofs.Common.{◌≡◌, ◌-◌, []}
use Rattle.saved_form.specs.Ranges.{any}
use Rattle.saved_form.specs.Reading.{number}
use Rattle.saved_form.specs.Fields.{items}
use Rattle.saved_form.proofs.Onward.{onward}
use Rattle.saved_form.proofs.numbers.Numbers.words.Given as goal

abbrev pub invariant-loop-index : goal.invariant-loop-index
invariant-loop-index l = items (number any) [] l.count l.fn.self ≡ onward (number any) l.found.items (l.count - l._index) l.self
