-- The run has been seen as the course so far, and its values are put down.
use Rattle.std.proofs.Common.{◌≡◌}
use Rattle.probe_inspect.specs.Course.{latches_at, values_to}
use Rattle.probe_inspect.specs.Rows.{IsSeenTo}
use Rattle.probe_inspect.proofs.rows.follow.Given as goal

abbrev pub invariant-loop-step : goal.invariant-loop-step
invariant-loop-step l = record {
  task : l.alone.task ≡ l.task;
  count : l.alone.count ≡ l.step;
  seen : IsSeenTo l.task l.course l.step;
  was : l.was.items ≡ values_to l.task 0 (latches_at l.course) l.step;
  now : l.now.items ≡ values_to l.task 1 (latches_at l.course) l.step;
}
