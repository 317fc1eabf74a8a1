-- It runs this task, and has executed so many instructions as the loop has come to.
use Rattle.std.proofs.Common.{◌≡◌}
use Rattle.probe_inspect.proofs.shown.run_to.Given as goal

abbrev pub invariant-loop-done : goal.invariant-loop-done
invariant-loop-done l = record {
  task : l.alone.task ≡ l.initial.alone.task;
  count : l.alone.count ≡ l._done;
}
