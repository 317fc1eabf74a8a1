use Rattle.std.proofs.Common.{length, ◌-◌, ◌≡◌, ◌≤◌}
use Rattle.count_differences.proofs.Least.{TieBelow}
use Rattle.count_differences.proofs.differences.least_difference.Given as goal

-- up to the place the items tie
abbrev pub invariant-loop-at : goal.invariant-loop-at
invariant-loop-at g l = (l.at ≤ length l.xs) × (length l.xs ≡ length l.ys) × TieBelow g.T.Ord.cmp g.met.T.Ord.total l.xs l.ys l.at

abbrev pub decreases-loop-at : goal.decreases-loop-at
decreases-loop-at g l = length l.xs - l.at
