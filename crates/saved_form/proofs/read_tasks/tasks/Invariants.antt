-- What is read in all is what was read, and after it what is left.
use Rattle.std.proofs.Common.{◌≡◌, ◌-◌, [], length}
use Rattle.saved_form.specs.Fields.{items}
use Rattle.saved_form.specs.Reading.{task}
use Rattle.saved_form.proofs.Onward.{onward}
use Rattle.saved_form.proofs.read_tasks.tasks.Given as goal

abbrev pub invariant-loop-index : goal.invariant-loop-index
invariant-loop-index l = record {
  items : items (task (record { quanta = l.known.quanta; tasks = l.known.tasks; harts = l.known.harts; slots = l.known.slots })) [] l.known.tasks l.fn.numbers
      ≡ onward (task (record { quanta = l.known.quanta; tasks = l.known.tasks; harts = l.known.harts; slots = l.known.slots })) l.found.items (l.known.tasks - l._index) l.numbers;
  length : length l.found.items ≡ l._index;
}
