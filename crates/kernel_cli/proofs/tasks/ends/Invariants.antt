-- The ends so far, with those of the tasks that are left, are all ends.
use Rattle.std.proofs.Common.{◌≡◌, ◌++◌, length}
use Rattle.std.specs.List.{AllByRecursion}
use Rattle.isa_model.specs.TaskPlaces.{IsValidTask}
use Rattle.kernel_cli.specs.AloneTasks.{ends_of}
use Rattle.kernel_cli.proofs.tasks.ends.Given as goal

abbrev pub invariant-loop-rest : goal.invariant-loop-rest
invariant-loop-rest l = record {
  ends : l.ends.items ++ ends_of l.rest ≡ ends_of l.tasks;
  valid : AllByRecursion IsValidTask l.rest;
}

abbrev pub decreases-loop-rest : goal.decreases-loop-rest
decreases-loop-rest l = length l.rest
