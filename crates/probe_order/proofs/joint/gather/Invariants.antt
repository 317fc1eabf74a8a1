-- The changes of the members so far.
use Rattle.std.proofs.Common.{◌≡◌, take}
use Rattle.probe_order.specs.Joint.{joints_of}
use Rattle.probe_order.proofs.joint.gather.Given as goal

abbrev pub invariant-loop-member : goal.invariant-loop-member
invariant-loop-member l = l.joints.items ≡ joints_of l.rows l.p l.q (take l.member-index l.members)
