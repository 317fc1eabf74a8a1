use Rattle.std.proofs.Common.{◌∷◌, Some, ap, ◌∙◌}
use Rattle.turn_lock.proofs.turns.Turns.lift.Goals as goal

pub exchange-requires-clause-holds_slot : goal.exchange-requires-clause-holds_slot
exchange-requires-clause-holds_slot g c κs within =
    let now = c.wait_for_turn.ensures.turn in
    let before = ap (λ m. m.1) c.draw_ticket-ticket.ensures.same ∙ c.args.pass.holds_nothing in
    (Some now.value, ap (λ m. m.1) now.turn ∙ ap (λ slots. (0, Some now.value) ∷ slots) before)
