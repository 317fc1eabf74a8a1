-- The sum so far, and its bound.
use Rattle.std.proofs.Common.{◌≡◌, ◌*◌, ◌^◌, ◌≤◌, take}
use Rattle.std.specs.List.{sum_by}
use Rattle.saved_form.specs.Saved.{SavedTask}
use Rattle.saved_form.proofs.read_tasks.fuels.Given as goal

abbrev pub invariant-loop-task : goal.invariant-loop-task
invariant-loop-task l = (l.sum ≡ sum_by (λ (t : SavedTask). t.fuel) (take l.task-index l.tasks)) × (l.sum ≤ l.task-index * 2 ^ 32)
