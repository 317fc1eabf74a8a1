use Rattle.std.proofs.Common.{rules, ◌≡◌, sym, ap, ◌∙◌, subst}
use Rattle.turn_lock.specs.declared.seat_view.Stage.TheVariants.{Waiting}
use Rattle.turn_lock.specs.Stage.{ticket_of}
use Rattle.turn_lock.proofs.TicketSteps.{look_keeps_rule}
use Rattle.turn_lock.proofs.turns.Turns.wait_for_turn.Goals as goal

pub load-serving-requires : goal.load-serving-requires
load-serving-requires g c =
    let same = ap (λ m. m.0) (sym c.loop.invariant.1) in
    let waits = subst (λ v. v.stage ≡ Waiting (ticket_of v.stage)) same c.requires.waits.0 in
    (search rules, search rules, look_keeps_rule g.V.Turned.stands _ _ _ _ _ waits (ap (λ v. v.frame) (sym same) ∙ c.requires.frame))
