-- The groups are compared with the first one, one after the other.
use Rattle.std.proofs.Common.{◌≡◌, ℕ, Option, length, IfNone, refl, sym, ◌∙◌, subst, arith}
use Rattle.std.proofs.lemmas.Option.{slice_get-get_or, slice_get_read, same_Some}
use Rattle.probe_inspect.specs.declared.groups.Group.{Group}
use Rattle.probe_inspect.proofs.Pairs.{group-even, group-few}
use Rattle.probe_order.specs.Joint.{count_joint, joints_of, IsJointDifferenceOf}
use Rattle.probe_order.specs.declared.joint.JointDifference.{JointDifference}
use Rattle.probe_order.proofs.Joints.{joints-length, joints-count, joints-difference, joints-as, both-more}
use Rattle.probe_order.proofs.joint.joint_difference_at.Goals as goal

pub compare-requires-clause-as_long : goal.compare-requires-clause-as_long
compare-requires-clause-as_long c =
    let groups = c.args.groups.now in
    let rows = c.args.rows.now in
    let p = c.args.p in
    let q = c.args.q in
    let g = c.index-groups-0.result in
    let h = c.index-groups-j.result in
    let first = slice_get_read groups (length groups) 0 g refl c.requires.groups.some c.index-groups-0.is in
    let there = slice_get_read groups (length groups) c.loop-j.j h refl c.loop-j-test.true c.index-groups-j.is in
    let us = c.as_slice-in-loop-j-2.result.now in
    let vs = c.as_slice-in-loop-j-3.result.now in
    let one = joints-as rows p q c.as_slice.result.now g.members c.gather.new.joints.items us c.as_slice.ensures.words c.as_slice-in-loop-j-2.ensures.value c.in_ok-gather.ensures.moved in
    let two = joints-as rows p q c.as_slice-in-loop-j.result.now h.members c.gather-in-loop-j.new.joints.items vs c.as_slice-in-loop-j.ensures.words c.as_slice-in-loop-j-3.ensures.value c.in_ok-gather-2.ensures.moved in
    joints-length rows p q g.members us one ∙ sym (group-even groups rows c.requires.groups c.loop-j.j h g there first)
    ∙ sym (joints-length rows p q h.members vs two)

pub compare-requires-clause-few : goal.compare-requires-clause-few
compare-requires-clause-few c =
    let groups = c.args.groups.now in
    let rows = c.args.rows.now in
    let p = c.args.p in
    let q = c.args.q in
    let g = c.index-groups-0.result in
    let first = slice_get_read groups (length groups) 0 g refl c.requires.groups.some c.index-groups-0.is in
    let us = c.as_slice-in-loop-j-2.result.now in
    let one = joints-as rows p q c.as_slice.result.now g.members c.gather.new.joints.items us c.as_slice.ensures.words c.as_slice-in-loop-j-2.ensures.value c.in_ok-gather.ensures.moved in
    let long = joints-length rows p q g.members us one in
    let few = group-few groups rows c.requires.groups 0 g first in
    omega (arith, long, few)

pub returns-in-Some : goal.returns-in-Some
returns-in-Some c =
    let groups = c.args.groups.now in
    let rows = c.args.rows.now in
    let p = c.args.p in
    let q = c.args.q in
    let g = c.index-groups-0.result in
    let h = c.index-groups-j.result in
    let first = slice_get_read groups (length groups) 0 g refl c.requires.groups.some c.index-groups-0.is in
    let there = slice_get_read groups (length groups) c.loop-j.j h refl c.loop-j-test.true c.index-groups-j.is in
    let us = c.as_slice-in-loop-j-2.result.now in
    let vs = c.as_slice-in-loop-j-3.result.now in
    let one = joints-as rows p q c.as_slice.result.now g.members c.gather.new.joints.items us c.as_slice.ensures.words c.as_slice-in-loop-j-2.ensures.value c.in_ok-gather.ensures.moved in
    let two = joints-as rows p q c.as_slice-in-loop-j.result.now h.members c.gather-in-loop-j.new.joints.items vs c.as_slice-in-loop-j.ensures.words c.as_slice-in-loop-j-3.ensures.value c.in_ok-gather-2.ensures.moved in
    let d = c.in-Some.difference in
    let here : IsJointDifferenceOf (joints_of rows p q g.members) (joints_of rows p q h.members) h.secret d =
    joints-difference (joints_of rows p q g.members) (joints_of rows p q h.members) us vs h.secret d one two c.in-Some.ensures.some in
    record {
      found = record {
        place = c.loop-j.j;
        group = h;
        there = there;
        before = c.loop-j.invariant;
        difference = λ other also.
            subst (λ (k : Group). IsJointDifferenceOf (joints_of rows p q k.members) (joints_of rows p q h.members) h.secret d)
            (same_Some g other (sym first ∙ also)) here;
      };
    }

pub loop-j-preserved : goal.loop-j-preserved
loop-j-preserved c =
    let groups = c.args.groups.now in
    let rows = c.args.rows.now in
    let p = c.args.p in
    let q = c.args.q in
    let g = c.index-groups-0.result in
    let h = c.index-groups-j.result in
    let first = slice_get_read groups (length groups) 0 g refl c.requires.groups.some c.index-groups-0.is in
    let there = slice_get_read groups (length groups) c.loop-j.j h refl c.loop-j-test.true c.index-groups-j.is in
    let us = c.as_slice-in-loop-j-2.result.now in
    let vs = c.as_slice-in-loop-j-3.result.now in
    let one = joints-as rows p q c.as_slice.result.now g.members c.gather.new.joints.items us c.as_slice.ensures.words c.as_slice-in-loop-j-2.ensures.value c.in_ok-gather.ensures.moved in
    let two = joints-as rows p q c.as_slice-in-loop-j.result.now h.members c.gather-in-loop-j.new.joints.items vs c.as_slice-in-loop-j.ensures.words c.as_slice-in-loop-j-3.ensures.value c.in_ok-gather-2.ensures.moved in
    let none : (z : (ℕ × ℕ) × (ℕ × ℕ)) → count_joint vs z ≡ count_joint us z =
    subst (λ (o : Option JointDifference). IfNone o ((z : (ℕ × ℕ) × (ℕ × ℕ)) → count_joint vs z ≡ count_joint us z)) c.in_default.is c.compare.ensures.none in
    both-more groups rows p q c.loop-j.j h g there first c.loop-j.invariant
    (λ z. sym (joints-count (joints_of rows p q h.members) vs two z) ∙ none z ∙ joints-count (joints_of rows p q g.members) us one z)

pub returns : goal.returns
returns c =
    record { found = λ k d low. c.loop-j.invariant k _ (omega (arith, low, c.loop-j-test.false)) (slice_get-get_or c.args.groups.now k d low) }
