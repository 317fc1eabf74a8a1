-- The bands so far, and those of the tasks that are left, are all bands.
use Rattle.std.proofs.Common.{◌≡◌, ◌++◌, drop}
use Rattle.rv_loader.specs.Loading.{bands_of}
use Rattle.rv_loader.proofs.placing.bands_of.Given as goal

abbrev pub invariant-loop-task : goal.invariant-loop-task
invariant-loop-task l = l.bands ++ bands_of (drop l.task-index l.tasks) ≡ bands_of l.tasks
