-- The groups of the places so far.
use Rattle.std.proofs.Common.{length, ◌-◌}
use Rattle.probe_inspect.specs.Groups.{AreGroupsTo}
use Rattle.probe_inspect.proofs.groups.groups_in.Given as goal

abbrev pub invariant-loop-from : goal.invariant-loop-from
invariant-loop-from l = AreGroupsTo l.order l.from l.groups.items

abbrev pub decreases-loop-from : goal.decreases-loop-from
decreases-loop-from l = length l.order - l.from
