-- The bodies so far, with those of the other tasks, are all.
use Rattle.std.proofs.Common.{◌≡◌, ◌+◌, ◌++◌, length}
use Rattle.std.specs.List.{AllByRecursion}
use Rattle.isa_model.specs.TaskPlaces.{IsValidTask}
use Rattle.core_model.specs.Core.{bodies_from}
use Rattle.kernel_core.proofs.boot.bodies.Given as goal

abbrev pub invariant-loop-rest : goal.invariant-loop-rest
invariant-loop-rest l =
    (l.bodies.items ++ bodies_from l.number l.rest ≡ bodies_from 0 l.tasks) × (l.number + length l.rest ≡ length l.tasks) × AllByRecursion IsValidTask l.rest

abbrev pub decreases-loop-rest : goal.decreases-loop-rest
decreases-loop-rest l = length l.rest
