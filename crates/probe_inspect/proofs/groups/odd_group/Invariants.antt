-- The groups so far have as many members as the first one.
use Rattle.std.proofs.Common.{◌≡◌, ◌<◌, ℕ, length, slice_get, Some}
use Rattle.probe_inspect.specs.declared.groups.Group.{Group}
use Rattle.probe_inspect.proofs.groups.odd_group.Given as goal

abbrev pub invariant-loop-group : goal.invariant-loop-group
invariant-loop-group l = record {
  size : (g : Group) → slice_get l.groups 0 ≡ Some g → l.size ≡ length g.members;
  same : (i : ℕ) (h : Group) → i < l.group-index → slice_get l.groups i ≡ Some h → length h.members ≡ l.size;
}
