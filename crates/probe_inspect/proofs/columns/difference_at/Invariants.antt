-- The groups so far are like the first one.
use Rattle.std.proofs.Common.{◌≡◌, ◌<◌, ℕ, slice_get, Some}
use Rattle.probe_inspect.specs.declared.groups.Group.{Group}
use Rattle.probe_inspect.specs.Columns.{IsLikeFirst}
use Rattle.probe_inspect.proofs.columns.difference_at.Given as goal

abbrev pub invariant-loop-j : goal.invariant-loop-j
invariant-loop-j l = (i : ℕ) (h : Group) → i < l.j → slice_get l.groups i ≡ Some h → IsLikeFirst l.groups l.rows l.at h
