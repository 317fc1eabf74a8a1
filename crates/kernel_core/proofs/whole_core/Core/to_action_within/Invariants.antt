-- The steps so far, and what is left of them.
use Rattle.core_model.specs.Orders.{max_steps}
use Rattle.kernel_core.proofs.ToAction.{SoFar}
use Rattle.kernel_core.proofs.whole_core.Core.to_action_within.Given as goal

abbrev pub invariant-loop-step : goal.invariant-loop-step
invariant-loop-step g l =
    SoFar l.hart max_steps l.initial.self l.self l._step (g.K.Keeper.stands l.initial.self.log.keeper) (g.K.Keeper.stands l.self.log.keeper)
    (g.K.Keeper.room_of l.initial.self.log.keeper) (g.K.Keeper.room_of l.self.log.keeper)
