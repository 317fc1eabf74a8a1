-- There is a run of each task so far.
use Rattle.std.proofs.Common.{◌≡◌, take}
use Rattle.probe_inspect.proofs.walk.Walk.new.Given as goal

abbrev pub invariant-loop-task : goal.invariant-loop-task
invariant-loop-task l = l.runs.items ≡ take l.task-index l.tasks
