-- The changes of one member more.
use Rattle.std.proofs.Common.{◌≡◌, ◌<◌, ℕ, List, [], ◌∷◌, ◌++◌, take, length, get_or, slice_get, Some, refl, sym, ap, ◌∙◌}
use Rattle.std.proofs.lemmas.List.{map_more}
use Rattle.std.proofs.lemmas.Option.{slice_get_read}
use Rattle.probe_inspect.specs.declared.rows.Row.{Row}
use Rattle.probe_order.specs.Joint.{joint_in, joints_of}
use Rattle.probe_order.proofs.joint.gather.Goals as goal

pub loop-member-preserved : goal.loop-member-preserved
loop-member-preserved c =
    let rows = c.args.rows.now in
    let p = c.args.p in
    let q = c.args.q in
    let i : ℕ = c.loop-member.member-index in
    let members = c.args.members.now in
    let low : i < length members = c.loop-member-test.true in
    let row : Row = c.index-rows-member.result in
    let m : ℕ = get_or members i 0 in
    let under : m < length rows = c.requires.members i 0 low in
    let there : slice_get rows m ≡ Some row = slice_get_read rows (length rows) m row refl under c.index-rows-member.is in
    let one = c.change_of.ensures.change in
    let two = c.change_of-in-loop-member.ensures.change in
    let joint : (c.change_of.result, c.change_of-in-loop-member.result) ≡ joint_in p q (slice_get rows m) =
    (λ k. (one k, two k)) ∙ sym (ap (joint_in p q) there) in
    let more = map_more (λ k. joint_in p q (slice_get rows k)) members i 0 low in
    c.in_ok-push.ensures.items
    ∙ ap (λ (xs : List ((ℕ × ℕ) × (ℕ × ℕ))). xs ++ (c.change_of.result, c.change_of-in-loop-member.result) ∷ []) c.loop-member.invariant
    ∙ ap (λ (x : (ℕ × ℕ) × (ℕ × ℕ)). joints_of rows p q (take i members) ++ x ∷ []) joint ∙ sym more
