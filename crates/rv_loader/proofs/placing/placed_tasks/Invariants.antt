-- The tasks so far are placed.
use Rattle.std.proofs.Common.{◌≡◌}
use Rattle.rv_loader.specs.Loading.{placed_tasks}
use Rattle.rv_loader.proofs.placing.placed_tasks.Given as goal

abbrev pub invariant-loop-task : goal.invariant-loop-task
invariant-loop-task l = l.placed ≡ placed_tasks l.yielded
