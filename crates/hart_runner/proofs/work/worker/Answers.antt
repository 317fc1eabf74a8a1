-- A worker begins at boot, and what it has stays while others take their turns.
use Rattle.std.proofs.Common.{◌∙◌, ℕ, List, sym, ap, subst}
use Rattle.hart_model.specs.HartState.{boot_hart}
use Rattle.core_model.specs.KernelWords.{KernelCodeState}
use Rattle.turn_lock.specs.Order.{KnowsOwnEntries}
use Rattle.turn_lock.specs.Passes.{held_order, lock_frame, pass_seen}
use Rattle.hart_runner.specs.declared.own_hart.OwnHart.{OwnHart}
use Rattle.hart_runner.specs.Turning.{IsTurning}
use Rattle.hart_runner.proofs.Booted.{turning-boots}
use Rattle.hart_runner.proofs.Turned.{turning-stays, give-stays}
use Rattle.hart_runner.proofs.work.worker.Goals as goal

pub loop-init : goal.loop-init
loop-init g c =
    let loaded = (lock_frame c.args.lock.now).value in
    let own : OwnHart = record { hart = c.boot.result; pace = c.args.pace; tally = c.new.result } in
    let take = ap (λ (code : KernelCodeState). code.take) (c.code.view_is ∙ c.requires.code) in
    let boots = turning-boots loaded c.requires.loaded c.args.hart c.requires.hart own (c.boot.ensures.boot ∙ ap (boot_hart c.args.hart) take)
    c.requires.pace c.new.ensures.counts in
    let P : List ℕ → Type 0 = λ o. IsTurning loaded c.args.hart o own in
    record {
      next = tt;
      finite = tt;
      pass = c.requires.pass.0;
      number = c.requires.pass.1;
      turning = subst P (sym c.requires.pass.2) boots;
    }

pub give_turn-pass-requires-clause-gives : goal.give_turn-pass-requires-clause-gives
give_turn-pass-requires-clause-gives g c =
    let loaded = (lock_frame c.args.lock.now).value in
    let seen = pass_seen c.loop.pass in
    let order = held_order c.lift-board.result.1 in
    let K : ℕ → Type 0 = λ n. KnowsOwnEntries n seen order in
    give-stays loaded c.requires.loaded c.args.hart seen order (subst K c.loop.invariant.number c.lift-board.ensures.known)
    c.lift-board.ensures.value.legal c.in-Some-gives.kind c.to_give-gives.new.own
    (c.in-Some-gives.ensures.gives loaded c.args.hart seen c.loop.invariant.turning)

pub take_turn-next-requires-clause-turning : goal.take_turn-next-requires-clause-turning
take_turn-next-requires-clause-turning g c =
    let loaded = (lock_frame c.args.lock.now).value in
    let seen = pass_seen c.loop.pass in
    let order = held_order c.lift-board.result.1 in
    let K : ℕ → Type 0 = λ n. KnowsOwnEntries n seen order in
    let P : OwnHart → Type 0 = λ own. IsTurning loaded c.args.hart order own in
    subst P (sym c.in-None-gives.ensures.same)
    (turning-stays loaded c.requires.loaded c.args.hart seen order (subst K c.loop.invariant.number c.lift-board.ensures.known)
    c.lift-board.ensures.value.legal c.loop.own c.loop.invariant.turning)
