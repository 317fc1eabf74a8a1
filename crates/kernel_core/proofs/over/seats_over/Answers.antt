-- One seat more, by what is left of its hart's pace.
use Rattle.std.proofs.Common.{◌≡◌, ◌+◌, List, option_map, slice_get, Some, None, ap, ◌∙◌, sym, subst, arith}
use Rattle.core_model.specs.declared.plan.Plan.{Plan}
use Rattle.timer_plan.specs.Pace.{PaceState}
use Rattle.kernel_core.specs.Parts.{IsPaceLeft, seat_over}
use Rattle.kernel_core.specs.Seats.{SeatValue}
use Rattle.kernel_core.proofs.PacedSeats.{item-at}
use Rattle.kernel_core.proofs.RunAfter.{index-is}
use Rattle.kernel_core.proofs.SeatsOver.{AreSeatsSoFar, none-yet, seats-are, one-more-seat, plan-found}
use Rattle.kernel_core.proofs.over.seats_over.Goals as goal

pub loop-number-init : goal.loop-number-init
loop-number-init c =
    let P : List SeatValue → Type 0 = λ xs. AreSeatsSoFar c.args.plans.now c.args.paces.now c.args.harts.now xs 0 in
    subst P (sym c.new-seats.ensures.items) (none-yet c.args.plans.now c.args.paces.now c.args.harts.now)

pub pace_with_left-requires : goal.pace_with_left-requires
pace_with_left-requires c =
    let low = c.loop-number-test.true in
    let count = c.requires.harts in
    let number = c.loop-number.number in
    let found = index-is c.args.plans.now number c.index-plans-number.result (omega (arith, low, count)) c.index-plans-number.is in
    let at : slice_get c.args.paces.now number ≡ Some c.in-Some.left.now = sym c.get.ensures.pace ∙ ap (λ o. option_map (λ p. p.now) o) c.in-Some.is in
    let P : Plan → Type 0 = λ p. IsPaceLeft p c.in-Some.left.now in
    record { left = subst P (plan-found c.args.plans.now number c.index-plans-number.result found) (c.requires.paces.each number c.in-Some.left.now at) }

pub unreachable-requires : goal.unreachable-requires
unreachable-requires c =
    let low = c.loop-number-test.true in
    let count = c.requires.harts in
    let long = c.requires.paces.count in
    let there = item-at c.args.paces.now c.loop-number.number (omega (arith, low, count, long)) in
    let none : None ≡ Some there.0 = sym (ap (λ o. option_map (λ p. p.now) o) c.in-None.is) ∙ c.get.ensures.pace ∙ there.1 in
    absurd (cc none)

pub loop-number-preserved : goal.loop-number-preserved
loop-number-preserved c =
    let low = c.loop-number-test.true in
    let count = c.requires.harts in
    let number = c.loop-number.number in
    let seats = c.loop-number.seats.items in
    let plan = c.index-plans-number.result in
    let h = c.index-harts-number.result in
    let found = index-is c.args.plans.now number plan (omega (arith, low, count)) c.index-plans-number.is in
    let hart = index-is c.args.harts.now number h low c.index-harts-number.is in
    let at : slice_get c.args.paces.now number ≡ Some c.in-Some.left.now = sym c.get.ensures.pace ∙ ap (λ o. option_map (λ p. p.now) o) c.in-Some.is in
    let s : SeatValue = record { pace = c.in_ok-pace-in-Some.pace; has_stopped = c.has_found_nothing-stopped.result } in
    let pace = c.in_ok-pace-in-Some.ensures.pace in
    let stopped = c.has_found_nothing-stopped.ensures.test in
    let same : s ≡ seat_over plan c.in-Some.left.now h =
    ap (λ (p : PaceState). let x : SeatValue = record { pace = p; has_stopped = c.has_found_nothing-stopped.result } in x) pace
    ∙ ap (λ b. let x : SeatValue = record { pace = (seat_over plan c.in-Some.left.now h).pace; has_stopped = b } in x) stopped in
    let P : List SeatValue → Type 0 = λ xs. AreSeatsSoFar c.args.plans.now c.args.paces.now c.args.harts.now xs (number + 1) in
    subst P (sym c.in_ok-push-in-Some.ensures.items)
    (one-more-seat c.args.plans.now c.args.paces.now c.args.harts.now seats number c.loop-number.invariant h plan c.in-Some.left.now s hart found at same)

pub returns : goal.returns
returns c =
    let over = c.loop-number-test.false in
    let end = c.loop-number.auto.number-end in
    record {
      seats = seats-are c.args.plans.now c.args.paces.now c.args.harts.now c.loop-number.seats.items c.loop-number.number c.loop-number.invariant
          (omega (arith, over, end));
    }
