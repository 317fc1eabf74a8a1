-- A hart that comes to a queue action is as before, with as much room.
use Rattle.std.proofs.Common.{◌≤◌, ℕ, refl, sym, subst}
use Rattle.hart_model.specs.HartState.{HartState}
use Rattle.hart_model.specs.HartStep.{hart_step}
use Rattle.kernel_core.specs.BoardStep.{IsWanted}
use Rattle.kernel_core.proofs.Wanted.{is-wanted, room-left}
use Rattle.kernel_core.proofs.board_step.go.Goals as goal

pub act-requires-clause-wanted : goal.act-requires-clause-wanted
act-requires-clause-wanted g c =
    let P : HartState → Type 0 = λ h. IsWanted c.in-Wants.call (hart_step c.args.code.now h) in
    let asks = c.in-Wants.ensures.wants c.in-Wants.call refl in
    subst P (sym (c.in-Wants.ensures.wants_kept c.in-Wants.call refl))
    (is-wanted c.in-Wants.call (hart_step c.args.code.now c.args.hart.now) asks (sym c.in-Wants.ensures.did))

pub act-requires-clause-room : goal.act-requires-clause-room
act-requires-clause-room g c =
    let asks = c.in-Wants.ensures.wants c.in-Wants.call refl in
    let step = hart_step c.args.code.now c.args.hart.now in
    let wanted = is-wanted c.in-Wants.call step asks (sym c.in-Wants.ensures.did) in
    subst (λ (n : ℕ). 6 ≤ n) (sym (room-left c.in-Wants.call step _ _ wanted c.in-Wants.ensures.room)) c.requires.room
