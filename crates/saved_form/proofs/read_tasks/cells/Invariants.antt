-- What is read in all is what was read, and after it what is left.
use Rattle.std.proofs.Common.{◌≡◌, ◌-◌, []}
use Rattle.saved_form.specs.Reading.{cell}
use Rattle.saved_form.specs.Fields.{items}
use Rattle.saved_form.proofs.Onward.{onward}
use Rattle.saved_form.proofs.read_tasks.cells.Given as goal

abbrev pub invariant-loop-index : goal.invariant-loop-index
invariant-loop-index l = items (cell) [] l.count l.fn.numbers ≡ onward (cell) l.found.items (l.count - l._index) l.numbers
