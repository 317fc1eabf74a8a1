use Rattle.std.proofs.Common.{rules, sym, ap, ◌∙◌, subst}
use Rattle.turn_lock.specs.Stage.{has_turn}
use Rattle.turn_lock.specs.Passes.{lock_frame}
use Rattle.turn_lock.proofs.TurnEnds.{end_without_entry_keeps_rule}
use Rattle.turn_lock.proofs.turns.Turns.put_back.Goals as goal

pub fetch_add-requires : goal.fetch_add-requires
fetch_add-requires g c =
    let stored = c.store.ensures.stored in
    let right = subst (λ m. g.V.Turned.stands c.args.value (lock_frame c.args.self.now) m.0.seen) (sym stored) c.requires.value in (
      search rules,
      search rules,
      end_without_entry_keeps_rule g.V.Turned.stands _ _ _ _ c.args.value (ap (λ m. has_turn m.0.stage) stored ∙ c.args.held.in_turn) (ap (λ m. m.0.frame) stored ∙ c.requires.lock.1) (ap (λ m. m.1) stored) right,
    )
