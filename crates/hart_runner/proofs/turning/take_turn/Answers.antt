-- Without memory the board is put back as it is. With it the hart comes to its take, and the board is laid back with the order's next entry.
use Rattle.std.proofs.Common.{◌≡◌, ◌≤◌, ◌+◌, ℕ, true, false, ◌++◌, ◌∷◌, ◌∙◌, [], List, length, rules, arith, sym, ap, subst}
use Rattle.core_model.specs.declared.action.Action.TheVariants as actions
use Rattle.core_model.specs.Board.{BoardState}
use Rattle.turn_lock.specs.Passes.{held_order, lock_frame, pass_seen}
use Rattle.hart_runner.specs.declared.own_hart.OwnHart.{OwnHart}
use Rattle.hart_runner.specs.declared.receipt.Cause.{Cause}
use Rattle.hart_runner.specs.declared.receipt.Receipt.{Receipt}
use Rattle.hart_runner.specs.CoreBoards.{IsBoardOf}
use Rattle.hart_runner.specs.Receipts.{EndsFor, IsReceiptOf}
use Rattle.hart_runner.specs.Working.{IsWorkerOf}
use Rattle.hart_runner.specs.Turning.{IsTurning}
use Rattle.hart_runner.proofs.Turned.{may-advance, reaches, at-action, asks-so, room-at, can-take, board-then, worker-then, turning-taken, found-nothing, receipt-now, holds-nothing, board-order, order-length}
use Rattle.hart_runner.proofs.turning.take_turn.Goals as goal

pub overflow_cast-order_length : goal.overflow_cast-order_length
overflow_cast-order_length c =
    let loaded = (lock_frame c.args.lock.now).value in
    let number = c.args.number in
    let order = held_order c.args.held in
    let t = c.requires.turning in
    let is = c.order.ensures.order ∙ ap (λ (x : BoardState). x.order) c.reserve_two.ensures.lists ∙ board-order loaded t.is_loaded order c.args.lifted.0 c.requires.board in
    let same = ap (λ (xs : List ℕ). length xs) is in
    let short = order-length loaded t.is_loaded order t.legal in
    (let few : length c.order.result.now ≤ 1048576 = omega (arith, same, short) in search rules)

pub returns-then-is_err-clause-length : goal.returns-then-is_err-clause-length
returns-then-is_err-clause-length c =
    let loaded = (lock_frame c.args.lock.now).value in
    let number = c.args.number in
    let order = held_order c.args.held in
    let t = c.requires.turning in
    let is = c.order.ensures.order ∙ ap (λ (x : BoardState). x.order) c.reserve_two.ensures.lists ∙ board-order loaded t.is_loaded order c.args.lifted.0 c.requires.board in
    ap (λ (r : Receipt). r.order_length) c.new.ensures.receipt ∙ ap (λ (xs : List ℕ). length xs) (is ∙ sym c.put_back-pass.ensures.seen)

pub returns-then-is_err-clause-receipt : goal.returns-then-is_err-clause-receipt
returns-then-is_err-clause-receipt c =
    let loaded = (lock_frame c.args.lock.now).value in
    let number = c.args.number in
    let order = held_order c.args.held in
    let t = c.requires.turning in
    let is = c.order.ensures.order ∙ ap (λ (x : BoardState). x.order) c.reserve_two.ensures.lists ∙ board-order loaded t.is_loaded order c.args.lifted.0 c.requires.board in
    let E : Cause → Type 0 = λ cause. EndsFor loaded order number cause in
    let now = receipt-now loaded number order c.new.result
    (ap (λ (r : Receipt). r.order_length) c.new.ensures.receipt ∙ ap (λ (xs : List ℕ). length xs) is)
    (subst E (sym (ap (λ (r : Receipt). r.cause) c.new.ensures.receipt)) (holds-nothing loaded number order c.args.own.now t c.requires.none)) in
    let P : List ℕ → Type 0 = λ o. IsReceiptOf loaded o number c.new.result in
    subst P (sym c.put_back-pass.ensures.seen) now

pub advance-call-requires-clause-kernel : goal.advance-call-requires-clause-kernel
advance-call-requires-clause-kernel c =
    let loaded = (lock_frame c.args.lock.now).value in
    let number = c.args.number in
    let order = held_order c.args.held in
    let t = c.requires.turning in
    (may-advance loaded number order c.args.own.now t c.args.code.now c.requires.code).0

pub advance-call-requires-clause-can : goal.advance-call-requires-clause-can
advance-call-requires-clause-can c =
    let loaded = (lock_frame c.args.lock.now).value in
    let number = c.args.number in
    let order = held_order c.args.held in
    let t = c.requires.turning in
    (may-advance loaded number order c.args.own.now t c.args.code.now c.requires.code).1

pub take-action-requires-clause-can : goal.take-action-requires-clause-can
take-action-requires-clause-can c =
    let loaded = (lock_frame c.args.lock.now).value in
    let number = c.args.number in
    let order = held_order c.args.held in
    let t = c.requires.turning in
    let r = reaches loaded number order c.args.own.now t c.args.code.now c.requires.code in
    let hart = c.advance-call.ensures.hart _ _ _ _ r in
    let own : OwnHart = record { hart = c.advance-call.new.hart; pace = c.advance-call.new.pace; tally = c.advance-call.new.keeper } in
    let at = at-action loaded number order c.args.own.now t c.args.code.now c.requires.code own hart (c.advance-call.ensures.pace _ _ r.is_pace)
    (c.advance-call.ensures.log _ _ _ _ r t.share.entries t.counts) in
    let asks = asks-so loaded number order c.args.own.now t c.args.code.now c.requires.code c.requires.none c.advance-call.new.hart hart in
    let board = c.reserve_two.ensures.lists ∙ c.requires.board.board in
    let spare : length c.reserve_two.new.self.lists.out + 2 ≤ c.reserve_two.new.self.spare = search rules in
    can-take loaded number order own at c.args.code.now c.requires.code c.reserve_two.new.self.lists board asks c.reserve_two.new.self.spare spare

pub take-action-requires-clause-room : goal.take-action-requires-clause-room
take-action-requires-clause-room c =
    let loaded = (lock_frame c.args.lock.now).value in
    let number = c.args.number in
    let order = held_order c.args.held in
    let t = c.requires.turning in
    let r = reaches loaded number order c.args.own.now t c.args.code.now c.requires.code in
    let hart = c.advance-call.ensures.hart _ _ _ _ r in
    let own : OwnHart = record { hart = c.advance-call.new.hart; pace = c.advance-call.new.pace; tally = c.advance-call.new.keeper } in
    let at = at-action loaded number order c.args.own.now t c.args.code.now c.requires.code own hart (c.advance-call.ensures.pace _ _ r.is_pace)
    (c.advance-call.ensures.log _ _ _ _ r t.share.entries t.counts) in
    let asks = asks-so loaded number order c.args.own.now t c.args.code.now c.requires.code c.requires.none c.advance-call.new.hart hart in
    let board = c.reserve_two.ensures.lists ∙ c.requires.board.board in
    room-at loaded number order own at c.args.code.now c.requires.code c.reserve_two.new.self.lists board

pub overflow_cast-order_length-2 : goal.overflow_cast-order_length-2
overflow_cast-order_length-2 c =
    let loaded = (lock_frame c.args.lock.now).value in
    let number = c.args.number in
    let order = held_order c.args.held in
    let t = c.requires.turning in
    let r = reaches loaded number order c.args.own.now t c.args.code.now c.requires.code in
    let hart = c.advance-call.ensures.hart _ _ _ _ r in
    let own : OwnHart = record { hart = c.advance-call.new.hart; pace = c.advance-call.new.pace; tally = c.advance-call.new.keeper } in
    let at = at-action loaded number order c.args.own.now t c.args.code.now c.requires.code own hart (c.advance-call.ensures.pace _ _ r.is_pace)
    (c.advance-call.ensures.log _ _ _ _ r t.share.entries t.counts) in
    let asks = asks-so loaded number order c.args.own.now t c.args.code.now c.requires.code c.requires.none c.advance-call.new.hart hart in
    let board = c.reserve_two.ensures.lists ∙ c.requires.board.board in
    let then = board-then loaded number order own at c.args.code.now c.requires.code c.reserve_two.new.self.lists board
    c.take-action.new.board.lists c.take-action.new.hart c.take-action.result c.take-action.ensures.gone c.take-action.new.board.spare in
    let is = c.order-2.ensures.order ∙ board-order loaded t.is_loaded (order ++ number ∷ []) c.take-action.new.board then in
    let same = ap (λ (xs : List ℕ). length xs) is in
    let short = order-length loaded t.is_loaded (order ++ number ∷ []) then.legal in
    (let few : length c.order-2.result.now ≤ 1048576 = omega (arith, same, short) in search rules)

pub lay-pass-requires-clause-value : goal.lay-pass-requires-clause-value
lay-pass-requires-clause-value c κs =
    let loaded = (lock_frame c.args.lock.now).value in
    let number = c.args.number in
    let order = held_order c.args.held in
    let t = c.requires.turning in
    let r = reaches loaded number order c.args.own.now t c.args.code.now c.requires.code in
    let hart = c.advance-call.ensures.hart _ _ _ _ r in
    let own : OwnHart = record { hart = c.advance-call.new.hart; pace = c.advance-call.new.pace; tally = c.advance-call.new.keeper } in
    let at = at-action loaded number order c.args.own.now t c.args.code.now c.requires.code own hart (c.advance-call.ensures.pace _ _ r.is_pace)
    (c.advance-call.ensures.log _ _ _ _ r t.share.entries t.counts) in
    let asks = asks-so loaded number order c.args.own.now t c.args.code.now c.requires.code c.requires.none c.advance-call.new.hart hart in
    let board = c.reserve_two.ensures.lists ∙ c.requires.board.board in
    let then = board-then loaded number order own at c.args.code.now c.requires.code c.reserve_two.new.self.lists board
    c.take-action.new.board.lists c.take-action.new.hart c.take-action.result c.take-action.ensures.gone c.take-action.new.board.spare in
    let P : ℕ → Type 0 = λ n. IsBoardOf loaded c.take-action.new.board (order ++ n ∷ []) in
    subst P (sym c.requires.number) then

pub returns-clause-turning : goal.returns-clause-turning
returns-clause-turning c =
    let loaded = (lock_frame c.args.lock.now).value in
    let number = c.args.number in
    let order = held_order c.args.held in
    let t = c.requires.turning in
    let r = reaches loaded number order c.args.own.now t c.args.code.now c.requires.code in
    let hart = c.advance-call.ensures.hart _ _ _ _ r in
    let own : OwnHart = record { hart = c.advance-call.new.hart; pace = c.advance-call.new.pace; tally = c.advance-call.new.keeper } in
    let at = at-action loaded number order c.args.own.now t c.args.code.now c.requires.code own hart (c.advance-call.ensures.pace _ _ r.is_pace)
    (c.advance-call.ensures.log _ _ _ _ r t.share.entries t.counts) in
    let asks = asks-so loaded number order c.args.own.now t c.args.code.now c.requires.code c.requires.none c.advance-call.new.hart hart in
    let board = c.reserve_two.ensures.lists ∙ c.requires.board.board in
    let seen : pass_seen c.lay-pass.result ≡ order ++ number ∷ [] = c.lay-pass.ensures.seen ∙ ap (λ (n : ℕ). order ++ n ∷ []) c.requires.number in
    let some : c.take-action.result ≡ actions.Empty → ⊥ = λ empty. (let wrong : true ≡ false = sym (c.found_nothing.ensures.test.1 empty) ∙ c.if-found_nothing.false in cc wrong) in
    let then = turning-taken loaded number order own at c.args.code.now c.requires.code c.reserve_two.new.self.lists board
    c.take-action.new.board.lists c.take-action.new.hart c.take-action.result c.take-action.ensures.gone
    c.take-action.new.keeper c.take-action.ensures.log asks some c.draw_if_taken.new.pace c.draw_if_taken.ensures.pace in
    let P : List ℕ → Type 0 = λ o. IsTurning loaded number o
    (record { hart = c.take-action.new.hart; pace = c.draw_if_taken.new.pace; tally = c.take-action.new.keeper }) in
    subst P (sym seen) then

pub returns-clause-worker : goal.returns-clause-worker
returns-clause-worker c =
    let loaded = (lock_frame c.args.lock.now).value in
    let number = c.args.number in
    let order = held_order c.args.held in
    let t = c.requires.turning in
    let r = reaches loaded number order c.args.own.now t c.args.code.now c.requires.code in
    let hart = c.advance-call.ensures.hart _ _ _ _ r in
    let own : OwnHart = record { hart = c.advance-call.new.hart; pace = c.advance-call.new.pace; tally = c.advance-call.new.keeper } in
    let at = at-action loaded number order c.args.own.now t c.args.code.now c.requires.code own hart (c.advance-call.ensures.pace _ _ r.is_pace)
    (c.advance-call.ensures.log _ _ _ _ r t.share.entries t.counts) in
    let asks = asks-so loaded number order c.args.own.now t c.args.code.now c.requires.code c.requires.none c.advance-call.new.hart hart in
    let board = c.reserve_two.ensures.lists ∙ c.requires.board.board in
    let seen : pass_seen c.lay-pass.result ≡ order ++ number ∷ [] = c.lay-pass.ensures.seen ∙ ap (λ (n : ℕ). order ++ n ∷ []) c.requires.number in
    let then = worker-then loaded number order own at c.args.code.now c.requires.code c.reserve_two.new.self.lists board
    c.take-action.new.board.lists c.take-action.new.hart c.take-action.result c.take-action.ensures.gone
    c.take-action.new.keeper c.take-action.ensures.log in
    let P : List ℕ → Type 0 = λ o. IsWorkerOf loaded number o c.take-action.new.hart c.take-action.new.keeper in
    subst P (sym seen) then

pub returns-then-found_nothing-clause-worker : goal.returns-then-found_nothing-clause-worker
returns-then-found_nothing-clause-worker c =
    let loaded = (lock_frame c.args.lock.now).value in
    let number = c.args.number in
    let order = held_order c.args.held in
    let t = c.requires.turning in
    let r = reaches loaded number order c.args.own.now t c.args.code.now c.requires.code in
    let hart = c.advance-call.ensures.hart _ _ _ _ r in
    let own : OwnHart = record { hart = c.advance-call.new.hart; pace = c.advance-call.new.pace; tally = c.advance-call.new.keeper } in
    let at = at-action loaded number order c.args.own.now t c.args.code.now c.requires.code own hart (c.advance-call.ensures.pace _ _ r.is_pace)
    (c.advance-call.ensures.log _ _ _ _ r t.share.entries t.counts) in
    let asks = asks-so loaded number order c.args.own.now t c.args.code.now c.requires.code c.requires.none c.advance-call.new.hart hart in
    let board = c.reserve_two.ensures.lists ∙ c.requires.board.board in
    let seen : pass_seen c.lay-pass.result ≡ order ++ number ∷ [] = c.lay-pass.ensures.seen ∙ ap (λ (n : ℕ). order ++ n ∷ []) c.requires.number in
    let then = worker-then loaded number order own at c.args.code.now c.requires.code c.reserve_two.new.self.lists board
    c.take-action.new.board.lists c.take-action.new.hart c.take-action.result c.take-action.ensures.gone
    c.take-action.new.keeper c.take-action.ensures.log in
    let P : List ℕ → Type 0 = λ o. IsWorkerOf loaded number o c.take-action.new.hart c.take-action.new.keeper in
    subst P (sym seen) then

pub returns-then-found_nothing-clause-length : goal.returns-then-found_nothing-clause-length
returns-then-found_nothing-clause-length c =
    let loaded = (lock_frame c.args.lock.now).value in
    let number = c.args.number in
    let order = held_order c.args.held in
    let t = c.requires.turning in
    let r = reaches loaded number order c.args.own.now t c.args.code.now c.requires.code in
    let hart = c.advance-call.ensures.hart _ _ _ _ r in
    let own : OwnHart = record { hart = c.advance-call.new.hart; pace = c.advance-call.new.pace; tally = c.advance-call.new.keeper } in
    let at = at-action loaded number order c.args.own.now t c.args.code.now c.requires.code own hart (c.advance-call.ensures.pace _ _ r.is_pace)
    (c.advance-call.ensures.log _ _ _ _ r t.share.entries t.counts) in
    let asks = asks-so loaded number order c.args.own.now t c.args.code.now c.requires.code c.requires.none c.advance-call.new.hart hart in
    let board = c.reserve_two.ensures.lists ∙ c.requires.board.board in
    let then = board-then loaded number order own at c.args.code.now c.requires.code c.reserve_two.new.self.lists board
    c.take-action.new.board.lists c.take-action.new.hart c.take-action.result c.take-action.ensures.gone c.take-action.new.board.spare in
    let seen : pass_seen c.lay-pass.result ≡ order ++ number ∷ [] = c.lay-pass.ensures.seen ∙ ap (λ (n : ℕ). order ++ n ∷ []) c.requires.number in
    let is = c.order-2.ensures.order ∙ board-order loaded t.is_loaded (order ++ number ∷ []) c.take-action.new.board then in
    ap (λ (r : Receipt). r.order_length) c.new-then-found_nothing.ensures.receipt ∙ ap (λ (xs : List ℕ). length xs) (is ∙ sym seen)

pub returns-then-found_nothing-clause-receipt : goal.returns-then-found_nothing-clause-receipt
returns-then-found_nothing-clause-receipt c =
    let loaded = (lock_frame c.args.lock.now).value in
    let number = c.args.number in
    let order = held_order c.args.held in
    let t = c.requires.turning in
    let r = reaches loaded number order c.args.own.now t c.args.code.now c.requires.code in
    let hart = c.advance-call.ensures.hart _ _ _ _ r in
    let own : OwnHart = record { hart = c.advance-call.new.hart; pace = c.advance-call.new.pace; tally = c.advance-call.new.keeper } in
    let at = at-action loaded number order c.args.own.now t c.args.code.now c.requires.code own hart (c.advance-call.ensures.pace _ _ r.is_pace)
    (c.advance-call.ensures.log _ _ _ _ r t.share.entries t.counts) in
    let asks = asks-so loaded number order c.args.own.now t c.args.code.now c.requires.code c.requires.none c.advance-call.new.hart hart in
    let board = c.reserve_two.ensures.lists ∙ c.requires.board.board in
    let then = board-then loaded number order own at c.args.code.now c.requires.code c.reserve_two.new.self.lists board
    c.take-action.new.board.lists c.take-action.new.hart c.take-action.result c.take-action.ensures.gone c.take-action.new.board.spare in
    let seen : pass_seen c.lay-pass.result ≡ order ++ number ∷ [] = c.lay-pass.ensures.seen ∙ ap (λ (n : ℕ). order ++ n ∷ []) c.requires.number in
    let is = c.order-2.ensures.order ∙ board-order loaded t.is_loaded (order ++ number ∷ []) c.take-action.new.board then in
    let found = found-nothing loaded number order own at c.args.code.now c.requires.code c.reserve_two.new.self.lists board
    c.take-action.new.board.lists c.take-action.new.hart c.take-action.result c.take-action.ensures.gone asks (c.found_nothing.ensures.test.0 c.if-found_nothing.true) in
    let E : Cause → Type 0 = λ cause. EndsFor loaded (order ++ number ∷ []) number cause in
    let now = receipt-now loaded number (order ++ number ∷ []) c.new-then-found_nothing.result
    (ap (λ (r : Receipt). r.order_length) c.new-then-found_nothing.ensures.receipt ∙ ap (λ (xs : List ℕ). length xs) is)
    (subst E (sym (ap (λ (r : Receipt). r.cause) c.new-then-found_nothing.ensures.receipt)) found) in
    let P : List ℕ → Type 0 = λ o. IsReceiptOf loaded o number c.new-then-found_nothing.result in
    subst P (sym seen) now
