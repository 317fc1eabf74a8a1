-- What is read in all is what was read, and after it what is left; and the last hart and the sum are those of what was read.
use Rattle.std.proofs.Common.{◌≡◌, ◌-◌, ◌≤◌, []}
use Rattle.std.specs.List.{sum_by}
use Rattle.core_model.specs.declared.event.OrderRun.{OrderRun}
use Rattle.saved_form.specs.Fields.{items}
use Rattle.saved_form.specs.Ranges.{last_hart}
use Rattle.saved_form.specs.Reading.{run}
use Rattle.saved_form.proofs.Onward.{onward}
use Rattle.saved_form.proofs.read_lists.so_many_runs.Given as goal

abbrev pub invariant-loop-index : goal.invariant-loop-index
invariant-loop-index l = record {
  items : items (run l.harts) [] l.count l.fn.numbers ≡ onward (run l.harts) l.found.items (l.count - l._index) l.numbers;
  last : l.last ≡ last_hart l.found.items;
  total : l.total ≡ sum_by (λ (r : OrderRun). r.times) l.found.items;
  bound : l.total ≤ 1048576;
}
