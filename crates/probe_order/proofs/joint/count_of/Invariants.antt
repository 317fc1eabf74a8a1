-- How often they stand among those so far.
use Rattle.std.proofs.Common.{◌≡◌, take}
use Rattle.std.specs.List.{count_by}
use Rattle.probe_order.specs.Joint.{same_joint}
use Rattle.probe_order.proofs.joint.count_of.Given as goal

abbrev pub invariant-loop-other : goal.invariant-loop-other
invariant-loop-other l = l.count ≡ count_by (λ x. same_joint x l.joint) (take l.other-index l.joints)
