-- The count so far, with that of the runs that are left, is that of all runs.
use Rattle.std.proofs.Common.{◌≡◌, ◌+◌, length}
use Rattle.core_model.specs.Events.{event_count}
use Rattle.kernel_cli.proofs.scripts.event_count.Given as goal

abbrev pub invariant-loop-rest : goal.invariant-loop-rest
invariant-loop-rest l = record { count : l.count + event_count l.rest ≡ event_count l.fn.runs }

abbrev pub decreases-loop-rest : goal.decreases-loop-rest
decreases-loop-rest l = length l.rest
