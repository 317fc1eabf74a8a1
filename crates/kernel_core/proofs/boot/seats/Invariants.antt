-- The seats so far, and the plans that are left.
use Rattle.std.proofs.Common.{◌≡◌, ◌++◌, map, length}
use Rattle.kernel_core.specs.Seats.{boot_seat}
use Rattle.kernel_core.proofs.boot.seats.Given as goal

abbrev pub invariant-loop-rest : goal.invariant-loop-rest
invariant-loop-rest l = l.seats.items ++ map boot_seat l.rest ≡ map boot_seat l.plans

abbrev pub decreases-loop-rest : goal.decreases-loop-rest
decreases-loop-rest l = length l.rest
