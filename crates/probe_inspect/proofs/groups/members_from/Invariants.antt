-- The run so far, from its first member on.
use Rattle.std.proofs.Common.{length, ◌-◌, ◌≡◌, ◌+◌, ◌<◌, ◌≤◌, take, map, ◌++◌}
use Rattle.probe_inspect.proofs.groups.members_from.Given as goal

abbrev pub invariant-loop-at : goal.invariant-loop-at
invariant-loop-at l = record {
  place : l.at ≡ l.from + length l.members.items;
  some : 0 < length l.members.items;
  within : l.at ≤ length l.order;
  run : take (l.from + length l.members.items) l.order ≡ take l.from l.order ++ map (λ member. (l.secret, member)) l.members.items;
}

abbrev pub decreases-loop-at : goal.decreases-loop-at
decreases-loop-at l = length l.order - l.at
