-- The action is the one that is wanted.
use Rattle.hart_model.specs.declared.calls.QueueCall.{QueueCall}
use Rattle.hart_model.specs.HartStep.{hart_step}
use Rattle.std.proofs.Common.{subst}
use Rattle.ready_queue.specs.declared.kind.Kind.TheVariants.{Ready, Done}
use Rattle.kernel_core.specs.BoardStep.{IsWanted}
use Rattle.kernel_core.proofs.Wanted.{takes, gives-ready, gives-done}
use Rattle.kernel_core.proofs.board_step.act.Goals as goal

pub take-requires-clause-can : goal.take-requires-clause-can
take-requires-clause-can g c =
    let step = hart_step c.args.code.now c.args.hart.now in
    let P : QueueCall → Type 0 = λ call. IsWanted call step in
    let asks = takes step (subst P c.in-Take.is c.requires.wanted) in
    let can = c.requires.can in
    record { is_hart = can.is_hart; asks = asks; nothing_out = can.takes asks; spare = can.spare }

pub give-requires-clause-can : goal.give-requires-clause-can
give-requires-clause-can g c =
    let step = hart_step c.args.code.now c.args.hart.now in
    let P : QueueCall → Type 0 = λ call. IsWanted call step in
    let gives = gives-ready step (subst P c.in-GiveReady.is c.requires.wanted) in
    record { gives = gives; may = c.requires.can.gives Ready gives }

pub give-requires-in-GiveDone-clause-can : goal.give-requires-in-GiveDone-clause-can
give-requires-in-GiveDone-clause-can g c =
    let step = hart_step c.args.code.now c.args.hart.now in
    let P : QueueCall → Type 0 = λ call. IsWanted call step in
    let gives = gives-done step (subst P c.in-GiveDone.is c.requires.wanted) in
    record { gives = gives; may = c.requires.can.gives Done gives }
