-- The groups so far are like the first one.
use Rattle.std.proofs.Common.{◌≡◌, ◌<◌, ℕ, slice_get, Some}
use Rattle.probe_inspect.specs.declared.groups.Group.{Group}
use Rattle.probe_order.specs.Joint.{IsBothLikeFirst}
use Rattle.probe_order.proofs.joint.joint_difference_at.Given as goal

abbrev pub invariant-loop-j : goal.invariant-loop-j
invariant-loop-j l = (i : ℕ) (h : Group) → i < l.j → slice_get l.groups i ≡ Some h → IsBothLikeFirst l.groups l.rows l.p l.q h
