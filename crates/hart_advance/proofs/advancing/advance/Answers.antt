-- The steps so far, and what comes of the last one.
use Rattle.std.proofs.Common.{arith}
use Rattle.hart_advance.proofs.Advanced.{Stepped, at-first, room-now, not-over, so-far-next, last, none-wants}
use Rattle.hart_advance.proofs.advancing.advance.Goals as goal

pub loop-step-init : goal.loop-step-init
loop-step-init g c =
    at-first c.args.code.now c.args.hart.now c.args.pace.now (g.K.Keeper.room_of c.args.keeper.now) c.requires.can
    (g.K.Keeper.stands c.args.keeper.now) c.requires.kernel

pub step_paced-requires : goal.step_paced-requires
step_paced-requires g c = record {
  kernel = c.loop-step.invariant.kernel;
  room = room-now c.args.code.now c.args.hart.now c.args.pace.now (g.K.Keeper.room_of c.args.keeper.now) c.requires.can
      c.loop-step.hart c.loop-step.pace c.loop-step._step (g.K.Keeper.stands c.args.keeper.now) (g.K.Keeper.stands c.loop-step.keeper)
      (g.K.Keeper.room_of c.loop-step.keeper) c.loop-step.invariant;
}

pub returns-in-Wants : goal.returns-in-Wants
returns-in-Wants g c =
    let stepped : Stepped c.args.code.now c.loop-step.hart c.loop-step.pace c.step_paced.result c.step_paced.new.hart c.step_paced.new.pace
    (g.K.Keeper.stands c.loop-step.keeper) (g.K.Keeper.stands c.step_paced.new.keeper)
    (g.K.Keeper.room_of c.loop-step.keeper) (g.K.Keeper.room_of c.step_paced.new.keeper) =
    record {
      did_is = c.step_paced.ensures.did;
      wants = c.step_paced.ensures.wants;
      hart_is = c.step_paced.ensures.hart;
      pace_is = c.step_paced.ensures.pace;
      log = c.step_paced.ensures.log;
      room = c.step_paced.ensures.room;
    } in
    let below = c.loop-step-test.true in
    let comes = last c.args.code.now c.args.hart.now c.args.pace.now (g.K.Keeper.room_of c.args.keeper.now) c.requires.can
    c.loop-step.hart c.loop-step.pace c.loop-step._step (g.K.Keeper.stands c.args.keeper.now) (g.K.Keeper.stands c.loop-step.keeper)
    (g.K.Keeper.room_of c.loop-step.keeper) c.loop-step.invariant
    c.step_paced.result c.step_paced.new.hart c.step_paced.new.pace (g.K.Keeper.stands c.step_paced.new.keeper)
    (g.K.Keeper.room_of c.step_paced.new.keeper) stepped (omega (arith, below)) in
    record {
      asks = c.step_paced.ensures.asks c.in-Wants.call c.in-Wants.is;
      call = λ plan progress number a reaches. (comes plan progress number a reaches c.in-Wants.call c.in-Wants.is).call_is;
      hart = λ plan progress number a reaches. (comes plan progress number a reaches c.in-Wants.call c.in-Wants.is).hart_is;
      pace = λ plan progress is. c.step_paced.ensures.pace plan progress (c.loop-step.invariant.paces plan progress is);
      log = λ plan progress number a reaches. (comes plan progress number a reaches c.in-Wants.call c.in-Wants.is).log_is;
      room = λ plan progress number a reaches. (comes plan progress number a reaches c.in-Wants.call c.in-Wants.is).room_is;
    }

pub loop-step-preserved : goal.loop-step-preserved
loop-step-preserved g c = so-far-next c.args.code.now c.args.hart.now c.args.pace.now (g.K.Keeper.room_of c.args.keeper.now) c.requires.can
    c.loop-step.hart c.loop-step.pace c.loop-step._step (g.K.Keeper.stands c.args.keeper.now) (g.K.Keeper.stands c.loop-step.keeper)
    (g.K.Keeper.room_of c.loop-step.keeper) c.loop-step.invariant
    c.step_paced.result c.step_paced.new.hart c.step_paced.new.pace (g.K.Keeper.stands c.step_paced.new.keeper)
    (g.K.Keeper.room_of c.step_paced.new.keeper)
    (record {
      did_is = c.step_paced.ensures.did;
      wants = c.step_paced.ensures.wants;
      hart_is = c.step_paced.ensures.hart;
      pace_is = c.step_paced.ensures.pace;
      log = c.step_paced.ensures.log;
      room = c.step_paced.ensures.room;
    }) (let below = c.loop-step-test.true in omega (arith, below))
    (none-wants c.step_paced.result c.in-Ran.is)

pub unreachable-requires : goal.unreachable-requires
unreachable-requires g c = not-over c.args.code.now c.args.hart.now c.args.pace.now (g.K.Keeper.room_of c.args.keeper.now) c.requires.can
    c.loop-step.hart c.loop-step.pace c.loop-step._step (g.K.Keeper.stands c.args.keeper.now) (g.K.Keeper.stands c.loop-step.keeper)
    (g.K.Keeper.room_of c.loop-step.keeper) c.loop-step.invariant
    (let over = c.loop-step-test.false in let end = c.loop-step.auto._step-end in omega (arith, over, end))
