-- The give is made on the board of the order, and the board is laid back with the order's next entry.
use Rattle.std.proofs.Common.{◌≡◌, ℕ, ◌++◌, ◌∷◌, ◌∙◌, [], List, sym, ap, subst}
use Rattle.turn_lock.specs.Passes.{held_order, lock_frame, pass_seen}
use Rattle.hart_runner.specs.CoreBoards.{IsBoardOf}
use Rattle.hart_runner.specs.Turning.{IsTurning}
use Rattle.hart_runner.proofs.Turned.{room-at, can-give, board-then, turning-given}
use Rattle.hart_runner.proofs.turning.give_turn.Goals as goal

pub give-action-requires-clause-can : goal.give-action-requires-clause-can
give-action-requires-clause-can c =
    let at = c.requires.gives in
    can-give (lock_frame c.args.lock.now).value c.args.number (held_order c.args.held) c.args.own.now at.at_action c.args.code.now c.requires.code
    c.args.lifted.0.lists c.requires.board.board c.args.kind at.gives c.args.lifted.0.spare

pub give-action-requires-clause-room : goal.give-action-requires-clause-room
give-action-requires-clause-room c =
    room-at (lock_frame c.args.lock.now).value c.args.number (held_order c.args.held) c.args.own.now c.requires.gives.at_action c.args.code.now
    c.requires.code c.args.lifted.0.lists c.requires.board.board

pub lay-requires-clause-value : goal.lay-requires-clause-value
lay-requires-clause-value c κs =
    let then = board-then (lock_frame c.args.lock.now).value c.args.number (held_order c.args.held) c.args.own.now c.requires.gives.at_action
    c.args.code.now c.requires.code c.args.lifted.0.lists c.requires.board.board c.give-action.new.board.lists c.give-action.new.hart
    c.give-action.result c.give-action.ensures.gone c.give-action.new.board.spare in
    let P : ℕ → Type 0 = λ n. IsBoardOf (lock_frame c.args.lock.now).value c.give-action.new.board (held_order c.args.held ++ n ∷ []) in
    subst P (sym c.requires.number) then

pub returns-clause-turning : goal.returns-clause-turning
returns-clause-turning c =
    let at = c.requires.gives in
    let then = turning-given (lock_frame c.args.lock.now).value c.args.number (held_order c.args.held) c.args.own.now at.at_action
    c.args.code.now c.requires.code c.args.lifted.0.lists c.requires.board.board c.give-action.new.board.lists c.give-action.new.hart
    c.give-action.result c.give-action.ensures.gone c.give-action.new.keeper c.give-action.ensures.log c.args.kind at.gives in
    let seen : pass_seen c.lay.result ≡ held_order c.args.held ++ c.args.number ∷ [] =
    c.lay.ensures.seen ∙ ap (λ (n : ℕ). held_order c.args.held ++ n ∷ []) c.requires.number in
    let P : List ℕ → Type 0 = λ o. IsTurning (lock_frame c.args.lock.now).value c.args.number o
    (record { hart = c.give-action.new.hart; pace = c.args.own.now.pace; tally = c.give-action.new.keeper }) in
    subst P (sym seen) then
