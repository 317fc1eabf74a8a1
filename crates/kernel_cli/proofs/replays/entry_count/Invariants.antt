-- The count so far, with that of the runs that are left, is that of all runs.
use Rattle.std.proofs.Common.{◌≡◌, ◌+◌, length}
use Rattle.core_model.specs.Events.{entry_count}
use Rattle.kernel_cli.proofs.replays.entry_count.Given as goal

abbrev pub invariant-loop-rest : goal.invariant-loop-rest
invariant-loop-rest l = record { count : l.count + entry_count l.rest ≡ entry_count l.fn.runs }

abbrev pub decreases-loop-rest : goal.decreases-loop-rest
decreases-loop-rest l = length l.rest
