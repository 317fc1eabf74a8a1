use Rattle.std.proofs.Common.{Some, slice_get, rules, ◌≡◌, ◌+◌, ap, ◌∙◌, subst, ⊎_elim, arith}
use Rattle.turn_lock.specs.SeatView.{view_after_split, new_seat_view}
use Rattle.turn_lock.specs.Passes.{IsNewPass}
use Rattle.turn_lock.proofs.Places.{at_end, to_slice_get, from_slice_get}
use Rattle.turn_lock.proofs.SeatChanges.{split_keeps_rule}
use Rattle.turn_lock.proofs.turns.Turns.deal.Goals as goal

pub split_seat-seat-requires : goal.split_seat-seat-requires
split_seat-seat-requires g c =
    let view = c.loop-number.invariant.2 in
    let made = ap (λ v. v.seats_made) view in
    let below = c.loop-number-test.true in
    let seats = c.requires.seats.0 in (
      search rules,
      search rules,
      split_keeps_rule g.V.Turned.stands _ _ _ (ap (λ v. v.number) view) (ap (λ v. v.stage) view) (ap (λ v. v.frame) view) (omega arith),
    )

pub loop-number-preserved : goal.loop-number-preserved
loop-number-preserved g c =
    let inv = c.loop-number.invariant in
    let split = c.split_seat-seat.ensures in
    let new = ap (λ m. m.0) split.4 ∙ ap new_seat_view inv.2 in
    let push = c.push_reserved.ensures in
    let count = c.loop-number.passes.ok in
    let long = inv.3 in (
      split.0 ∙ inv.0,
      ap (λ m. m.1) split.2 ∙ inv.1,
      ap (λ m. m.0) split.2 ∙ ap view_after_split inv.2,
      search rules,
      search rules,
      (λ i p e. ⊎_elim (λ was. inv.5 i p (to_slice_get c.loop-number.passes.items i p was))
          (λ last. let number : c.loop-number._number ≡ i + 1 = (let place = last.0 in omega arith) in
          subst (λ q. IsNewPass c.args.self.now (i + 1) q) last.1
          ((split.3 ∙ (inv.0 ∙ c.requires.table), ap (λ v. v.frame) new), ap (λ v. v.number) new ∙ number, ap (λ v. v.seen) new))
          (at_end c.loop-number.passes.items _ p i (from_slice_get _ i p (subst (λ xs. slice_get xs i ≡ Some p) push.items e)))),
    )
