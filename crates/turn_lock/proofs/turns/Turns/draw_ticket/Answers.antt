use Rattle.std.proofs.Common.{rules, ◌%◌, ◌^◌, ℕ, sym, ap, ◌∙◌}
use Rattle.turn_lock.specs.declared.seat_view.Stage.TheVariants.{Waiting}
use Rattle.turn_lock.specs.Stage.{ticket_of}
use Rattle.turn_lock.specs.SeatView.{view_at}
use Rattle.turn_lock.proofs.TicketSteps.{draw_keeps_rule}
use Rattle.turn_lock.proofs.turns.Turns.draw_ticket.Goals as goal

pub fetch_add-requires : goal.fetch_add-requires
fetch_add-requires g c = (search rules, search rules, draw_keeps_rule g.V.Turned.stands _ _ _ _ _ c.requires.idle c.requires.frame)

pub returns-clause-ticket : goal.returns-clause-ticket
returns-clause-ticket g c =
    let drew = c.fetch_add.ensures.2 in
    let stage = ap (λ m. m.0.stage) drew.2 in
    let ticket = ap ticket_of stage in
    (stage ∙ ap Waiting (sym ticket), drew.1 ∙ ap (λ (n : ℕ). n % 2 ^ 64) (sym ticket))

pub returns-clause-same : goal.returns-clause-same
returns-clause-same g c =
    let drew = c.fetch_add.ensures.2 in
    let stage = ap (λ m. m.0.stage) drew.2 in
    drew.2 ∙ ap (λ st. (view_at c.args.seat.now.me.0 st, c.args.seat.now.me.1)) (sym stage)
