-- What is written so far, and the bytes of what is left, are the whole.
use Rattle.std.proofs.Common.{◌≡◌, ◌++◌, drop}
use Rattle.std.specs.List.{flat_map}
use Rattle.saved_form.specs.Spelling.{of_task, bytes_of}
use Rattle.saved_form.proofs.writing.add_tasks.Given as goal

abbrev pub invariant-loop-task : goal.invariant-loop-task
invariant-loop-task l = l.out.items ++ bytes_of (flat_map of_task (drop l.task-index l.tasks)) ≡ l.initial.out.items ++ bytes_of (flat_map of_task l.tasks)
