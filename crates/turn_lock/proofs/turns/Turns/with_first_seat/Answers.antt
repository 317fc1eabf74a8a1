use Rattle.std.proofs.Common.{◌++◌, ◌∷◌, [], Some, sym, ap, ◌∙◌, subst}
use Rattle.atomic_table.specs.Table.{opening}
use Rattle.turn_lock.specs.declared.rule.LockKey.{LockKey}
use Rattle.turn_lock.specs.SeatView.{opening_view}
use Rattle.turn_lock.specs.Rule.{IsTicketLock}
use Rattle.turn_lock.proofs.SeatChanges.{opening_meets_rule}
use Rattle.turn_lock.proofs.turns.Turns.with_first_seat.Goals as goal

pub new-requires : goal.new-requires
new-requires g c =
    let key : LockKey g.row.V-Frame.Denot = record { frame = c.args.frame; seats = c.args.seats } in
    let slots = c.push_reserved.ensures.items ∙ ap (λ xs. xs ++ Some c.args.value ∷ []) c.in_ok-slots.ensures.items in
    subst (λ xs. IsTicketLock g.V.Turned.stands key (opening (0 ∷ 0 ∷ []) xs (opening_view key))) (sym slots)
    (opening_meets_rule g.V.Turned.stands key c.args.value c.requires.seats.0 c.requires.seats.1 c.requires.value)
