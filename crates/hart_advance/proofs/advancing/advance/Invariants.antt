-- The steps so far, and what is left of the own steps.
use Rattle.hart_advance.proofs.Advanced.{SoFar}
use Rattle.hart_advance.proofs.advancing.advance.Given as goal

abbrev pub invariant-loop-step : goal.invariant-loop-step
invariant-loop-step g l =
    SoFar l.code l.initial.hart l.initial.pace l.hart l.pace l._step (g.K.Keeper.stands l.initial.keeper) (g.K.Keeper.stands l.keeper)
    (g.K.Keeper.room_of l.initial.keeper) (g.K.Keeper.room_of l.keeper)
