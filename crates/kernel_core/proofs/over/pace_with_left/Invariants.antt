-- So many quanta are drawn.
use Rattle.std.proofs.Common.{◌≡◌}
use Rattle.timer_plan.specs.Pace.{pace_of}
use Rattle.kernel_core.proofs.over.pace_with_left.Given as goal

abbrev pub invariant-loop-taken : goal.invariant-loop-taken
invariant-loop-taken l = l.pace ≡ pace_of l.plan l._taken 0
