-- The seats of the harts so far.
use Rattle.kernel_core.proofs.SeatsOver.{AreSeatsSoFar}
use Rattle.kernel_core.proofs.over.seats_over.Given as goal

abbrev pub invariant-loop-number : goal.invariant-loop-number
invariant-loop-number l = AreSeatsSoFar l.plans l.paces l.harts l.seats.items l.number
