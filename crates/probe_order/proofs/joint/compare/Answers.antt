-- The least difference of two lists, and where there is none.
use Rattle.std.proofs.Common.{sym, ◌∙◌}
use Rattle.probe_order.specs.declared.joint.JointDifference.{JointDifference}
use Rattle.probe_order.proofs.Joints.{joint-often-same, joint-difference-is}
use Rattle.probe_order.proofs.joint.compare.Goals as goal

pub returns-in-None-clause-none : goal.returns-in-None-clause-none
returns-in-None-clause-none c = λ z.
    sym (joint-often-same z c.args.other.now) ∙ sym (c.in-None.ensures.none z) ∙ joint-often-same z c.args.first.now

pub returns-in-Some-clause-some : goal.returns-in-Some-clause-some
returns-in-Some-clause-some c =
    let d : JointDifference =
    record { secret = c.args.secret; joint = c.in-Some.joint; count_first = c.count_of.result; count_other = c.count_of-in-Some.result } in
    joint-difference-is c.args.first.now c.args.other.now d c.in-Some.ensures.some c.count_of.ensures.count c.count_of-in-Some.ensures.count
