-- The steps so far, and what comes of the last one.
use Rattle.std.proofs.Common.{◌≡◌, ◌∙◌, true, not, refl, sym, ap, subst, arith}
use Rattle.core_model.specs.Orders.{max_steps}
use Rattle.kernel_core.specs.History.{CoreValue}
use Rattle.kernel_core.specs.PacedHistory.{PacedHistory, IsPacedCoreOf, acted}
use Rattle.kernel_core.proofs.HistoryMore.{sound-so}
use Rattle.kernel_core.proofs.ToAction.{NextStep, at-first, told-first, not-over, no-room-left, so-far-next, last-of, comes-on, has-room, few-left}
use Rattle.kernel_core.proofs.whole_core.Core.to_action_within.Goals as goal

pub loop-step-init : goal.loop-step-init
loop-step-init g c =
    at-first c.args.hart max_steps c.args.self.now (g.K.Keeper.stands c.args.self.now.log.keeper) (g.K.Keeper.room_of c.args.self.now.log.keeper)
    c.requires.paced c.requires.hart c.requires.goes_on c.requires.actions

pub returns-then-room-lt-ENTRIES_EACH-clause-actions : goal.returns-then-room-lt-ENTRIES_EACH-clause-actions
returns-then-room-lt-ENTRIES_EACH-clause-actions g c = c.loop-step.invariant.actions

pub returns-then-room-lt-ENTRIES_EACH-clause-paced : goal.returns-then-room-lt-ENTRIES_EACH-clause-paced
returns-then-room-lt-ENTRIES_EACH-clause-paced g c = c.loop-step.invariant.is_paced

pub returns-then-room-lt-ENTRIES_EACH-clause-none : goal.returns-then-room-lt-ENTRIES_EACH-clause-none
returns-then-room-lt-ENTRIES_EACH-clause-none g c t most is fits =
    let below = c.loop-step-test.true in
    let room = c.room.ensures.value ∙ ap (λ (v : CoreValue g.row.K.Denot). g.K.Keeper.room_of v.log.keeper) c.self.view_is in
    let little = c.if-room-lt-ENTRIES_EACH.true in
    let above = no-room-left c.args.hart max_steps c.args.self.now c.loop-step.self c.loop-step._step (g.K.Keeper.stands c.args.self.now.log.keeper)
    (g.K.Keeper.stands c.loop-step.self.log.keeper) (g.K.Keeper.room_of c.args.self.now.log.keeper)
    (g.K.Keeper.room_of c.loop-step.self.log.keeper) c.loop-step.invariant (omega (arith, below)) t is (omega (arith, room, little)) most fits in
    sym (ap not above)

pub returns-then-room-lt-ENTRIES_EACH-clause-enough : goal.returns-then-room-lt-ENTRIES_EACH-clause-enough
returns-then-room-lt-ENTRIES_EACH-clause-enough g c enough =
    let below = c.loop-step-test.true in
    let room = c.room.ensures.value ∙ ap (λ (v : CoreValue g.row.K.Denot). g.K.Keeper.room_of v.log.keeper) c.self.view_is in
    let little = c.if-room-lt-ENTRIES_EACH.true in
    let I : CoreValue g.row.K.Denot → Type 0 = λ v. (v.is_paced ≡ true) → (t : PacedHistory) × IsPacedCoreOf t v in
    let now = subst I c.self.view_is c.self.invariant c.loop-step.invariant.is_paced in
    let first = told-first c.args.hart max_steps c.args.self.now c.loop-step.self c.loop-step._step (g.K.Keeper.stands c.args.self.now.log.keeper)
    (g.K.Keeper.stands c.loop-step.self.log.keeper) (g.K.Keeper.room_of c.args.self.now.log.keeper)
    (g.K.Keeper.room_of c.loop-step.self.log.keeper) c.loop-step.invariant now in
    absurd (has-room first.0 c.args.hart (g.K.Keeper.room_of c.args.self.now.log.keeper) enough
    (no-room-left c.args.hart max_steps c.args.self.now c.loop-step.self c.loop-step._step (g.K.Keeper.stands c.args.self.now.log.keeper)
    (g.K.Keeper.stands c.loop-step.self.log.keeper) (g.K.Keeper.room_of c.args.self.now.log.keeper)
    (g.K.Keeper.room_of c.loop-step.self.log.keeper) c.loop-step.invariant (omega (arith, below)) first.0 first.1 (omega (arith, room, little))))

pub to_step-requires : goal.to_step-requires
to_step-requires g c = record {
  paced = c.loop-step.invariant.is_paced;
  hart = c.loop-step.invariant.exists;
  goes_on = c.loop-step.invariant.goes_on;
  actions = c.loop-step.invariant.order;
  room = (
      let room = c.room.ensures.value ∙ ap (λ (v : CoreValue g.row.K.Denot). g.K.Keeper.room_of v.log.keeper) c.self.view_is in
      let enough = c.if-room-lt-ENTRIES_EACH.false in
      omega (arith, room, enough));
}

pub returns-in-Some : goal.returns-in-Some
returns-in-Some g c =
    let room = c.room.ensures.value ∙ ap (λ (v : CoreValue g.row.K.Denot). g.K.Keeper.room_of v.log.keeper) c.self.view_is in
    let enough = c.if-room-lt-ENTRIES_EACH.false in
    let next : NextStep c.args.hart c.loop-step.self c.to_step.new.self c.to_step.result (g.K.Keeper.stands c.loop-step.self.log.keeper)
    (g.K.Keeper.stands c.to_step.new.self.log.keeper) (g.K.Keeper.room_of c.loop-step.self.log.keeper)
    (g.K.Keeper.room_of c.to_step.new.self.log.keeper) =
    record {
      told = c.to_step.ensures.told;
      action_is = c.to_step.ensures.action;
      actions = c.to_step.ensures.actions;
      log = c.to_step.ensures.keeper;
      room = c.to_step.ensures.room;
    } in
    let below = c.loop-step-test.true in
    let last = last-of c.args.hart max_steps c.args.self.now c.loop-step.self c.loop-step._step (g.K.Keeper.stands c.args.self.now.log.keeper)
    (g.K.Keeper.stands c.loop-step.self.log.keeper) (g.K.Keeper.room_of c.args.self.now.log.keeper)
    (g.K.Keeper.room_of c.loop-step.self.log.keeper) c.loop-step.invariant (omega (arith, below)) c.to_step.new.self c.to_step.result
    (g.K.Keeper.stands c.to_step.new.self.log.keeper) (g.K.Keeper.room_of c.to_step.new.self.log.keeper) next (omega (arith, room, enough)) in
    let I : CoreValue g.row.K.Denot → Type 0 = λ v. (v.is_paced ≡ true) → (t : PacedHistory) × IsPacedCoreOf t v in
    let now = subst I c.self.view_is c.self.invariant c.loop-step.invariant.is_paced in
    let first = told-first c.args.hart max_steps c.args.self.now c.loop-step.self c.loop-step._step (g.K.Keeper.stands c.args.self.now.log.keeper)
    (g.K.Keeper.stands c.loop-step.self.log.keeper) (g.K.Keeper.room_of c.args.self.now.log.keeper)
    (g.K.Keeper.room_of c.loop-step.self.log.keeper) c.loop-step.invariant now in
    record {
      told = λ t is. (last t is c.in-Some.action c.in-Some.is).told;
      action = λ t is. (last t is c.in-Some.action c.in-Some.is).action_is;
      sound = λ t is. sound-so (acted t c.args.hart).history is.core.is_kernel is.core.start;
      actions = c.to_step.ensures.actions ∙ c.loop-step.invariant.actions;
      paced = c.to_step.ensures.paced;
      keeper = λ t is before stood. (last t is c.in-Some.action c.in-Some.is).log before stood;
      room = λ t is. (last t is c.in-Some.action c.in-Some.is).room;
      none = λ t most is fits. sym (ap not ((last t is c.in-Some.action c.in-Some.is).above most fits));
      enough = λ enough. refl;
      few = few-left first.0 c.args.hart (g.K.Keeper.room_of c.args.self.now.log.keeper) (g.K.Keeper.room_of c.to_step.new.self.log.keeper)
          (comes-on first.0 c.args.hart c.args.self.now first.1 c.requires.hart c.requires.goes_on)
          (last first.0 first.1 c.in-Some.action c.in-Some.is).room;
    }

pub loop-step-preserved : goal.loop-step-preserved
loop-step-preserved g c =
    let room = c.room.ensures.value ∙ ap (λ (v : CoreValue g.row.K.Denot). g.K.Keeper.room_of v.log.keeper) c.self.view_is in
    let enough = c.if-room-lt-ENTRIES_EACH.false in
    let next : NextStep c.args.hart c.loop-step.self c.to_step.new.self c.to_step.result (g.K.Keeper.stands c.loop-step.self.log.keeper)
    (g.K.Keeper.stands c.to_step.new.self.log.keeper) (g.K.Keeper.room_of c.loop-step.self.log.keeper)
    (g.K.Keeper.room_of c.to_step.new.self.log.keeper) =
    record {
      told = c.to_step.ensures.told;
      action_is = c.to_step.ensures.action;
      actions = c.to_step.ensures.actions;
      log = c.to_step.ensures.keeper;
      room = c.to_step.ensures.room;
    } in
    let below = c.loop-step-test.true in
    let I : CoreValue g.row.K.Denot → Type 0 = λ v. (v.is_paced ≡ true) → (t : PacedHistory) × IsPacedCoreOf t v in
    let now = subst I c.self.view_is c.self.invariant c.loop-step.invariant.is_paced in
    so-far-next c.args.hart max_steps c.args.self.now c.loop-step.self c.loop-step._step (g.K.Keeper.stands c.args.self.now.log.keeper)
    (g.K.Keeper.stands c.loop-step.self.log.keeper) (g.K.Keeper.room_of c.args.self.now.log.keeper)
    (g.K.Keeper.room_of c.loop-step.self.log.keeper) c.loop-step.invariant (omega (arith, below)) c.to_step.new.self c.to_step.result
    (g.K.Keeper.stands c.to_step.new.self.log.keeper) (g.K.Keeper.room_of c.to_step.new.self.log.keeper) next (omega (arith, room, enough))
    now c.in_default.is

pub unreachable-requires : goal.unreachable-requires
unreachable-requires g c =
    let over = c.loop-step-test.false in
    let end = c.loop-step.auto._step-end in
    not-over c.args.hart max_steps c.args.self.now c.loop-step.self c.loop-step._step (g.K.Keeper.stands c.args.self.now.log.keeper)
    (g.K.Keeper.stands c.loop-step.self.log.keeper) (g.K.Keeper.room_of c.args.self.now.log.keeper)
    (g.K.Keeper.room_of c.loop-step.self.log.keeper) c.loop-step.invariant (omega (arith, over, end)) (omega arith)
    (λ t is. let comes = comes-on t c.args.hart c.args.self.now is c.requires.hart c.requires.goes_on in (comes.action, comes.acts))
