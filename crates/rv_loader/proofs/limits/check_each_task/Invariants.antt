-- The first refusal is the first of those that are left.
use Rattle.std.proofs.Common.{◌≡◌, map, drop}
use Rattle.rv_loader.specs.Refusals.{first_of, task_refusal}
use Rattle.rv_loader.proofs.limits.check_each_task.Given as goal

abbrev pub invariant-loop-task : goal.invariant-loop-task
invariant-loop-task l = first_of (map task_refusal l.tasks) ≡ first_of (map task_refusal (drop l.task-index l.tasks))
