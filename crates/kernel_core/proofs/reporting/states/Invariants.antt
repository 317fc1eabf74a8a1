-- The tasks so far.
use Rattle.std.proofs.Common.{◌≡◌, ◌≤◌, ◌-◌}
use Rattle.resume_laws.specs.Parts.{core_of_parts}
use Rattle.kernel_core.specs.Snapshots.{states_from}
use Rattle.kernel_core.proofs.reporting.states.Given as goal

abbrev pub invariant-loop-task : goal.invariant-loop-task
invariant-loop-task l = (l.states.items ≡ states_from (core_of_parts l.board.lists l.harts) 0 l.task) × (l.task ≤ l.count)

abbrev pub decreases-loop-task : goal.decreases-loop-task
decreases-loop-task l = l.count - l.task
