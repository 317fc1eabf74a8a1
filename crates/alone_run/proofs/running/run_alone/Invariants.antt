-- It runs this task, and so far nothing has ended it.
use Rattle.std.proofs.Common.{◌≡◌, ◌<◌, ◌-◌, None, ℕ}
use Rattle.isa_model.specs.Alone.{alone_at}
use Rattle.alone_run.proofs.running.run_alone.Given as goal

abbrev pub invariant-loop-control : goal.invariant-loop-control
invariant-loop-control l = record {
  task : l.alone.task ≡ l.task;
  running : (k : ℕ) → k < l.alone.count → (alone_at l.task k).end ≡ None;
}

abbrev pub decreases-loop-control : goal.decreases-loop-control
decreases-loop-control l = l.task.fuel - l.alone.count
