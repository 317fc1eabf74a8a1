-- At the places so far all groups are alike.
use Rattle.std.proofs.Common.{◌+◌, ◌<◌, ℕ}
use Rattle.probe_inspect.specs.Columns.{AreAlikeAt}
use Rattle.probe_inspect.proofs.columns.difference_from.Given as goal

abbrev pub invariant-loop-i : goal.invariant-loop-i
invariant-loop-i l = (k : ℕ) → k < l.i → AreAlikeAt l.groups l.rows (l.from + k)
