-- The instructions that the run has executed.
use Rattle.std.proofs.Common.{◌≡◌, ◌≤◌, ◌-◌, ◌*◌, ℕ, length, slice_get, Some}
use Rattle.probe_inspect.specs.declared.course.Passed.{Passed}
use Rattle.probe_inspect.specs.Course.{IsPassed, latches_in, places_before}
use Rattle.probe_inspect.proofs.course.course_of.Given as goal

abbrev pub invariant-loop-alloc : goal.invariant-loop-alloc
invariant-loop-alloc l = record {
  task : l.alone.task ≡ l.task;
  count : l.alone.count ≡ length l.steps.items;
  steps : (n : ℕ) (passed : Passed) → slice_get l.steps.items n ≡ Some passed → IsPassed l.task n passed;
  within : l.alone.count ≤ l.task.fuel;
  places : l.places ≡ places_before (latches_in l.steps.items) (length l.steps.items);
  few : l.places ≤ 7 * l.alone.count;
}

abbrev pub decreases-loop-alloc : goal.decreases-loop-alloc
decreases-loop-alloc l = l.task.fuel - l.alone.count
