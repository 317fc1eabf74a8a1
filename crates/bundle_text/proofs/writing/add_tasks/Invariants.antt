-- What is written so far, and the text of what is left, are the whole.
use Rattle.std.proofs.Common.{◌≡◌, ◌++◌, drop}
use Rattle.std.specs.List.{flat_map}
use Rattle.bundle_text.specs.Text.{task_text}
use Rattle.bundle_text.proofs.writing.add_tasks.Given as goal

abbrev pub invariant-loop-task : goal.invariant-loop-task
invariant-loop-task l = l.out.items ++ flat_map (task_text l.has_bands) (drop l.task-index l.tasks) ≡ l.initial.out.items ++ flat_map (task_text l.has_bands) l.tasks
