-- What is read in all is what was read, and after it what is left.
use Rattle.std.proofs.Common.{◌≡◌, ◌-◌, []}
use Rattle.saved_form.specs.Reading.{listed}
use Rattle.saved_form.specs.Lists.{belongs_to}
use Rattle.saved_form.specs.Fields.{items}
use Rattle.saved_form.proofs.Onward.{onward}
use Rattle.saved_form.proofs.read_lists.so_many_listed.Given as goal

abbrev pub invariant-loop-index : goal.invariant-loop-index
invariant-loop-index l = items (listed (belongs_to l.list) l.tasks) [] l.count l.fn.numbers ≡ onward (listed (belongs_to l.list) l.tasks) l.found.items (l.count - l._index) l.numbers
