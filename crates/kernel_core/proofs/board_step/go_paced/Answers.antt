-- A step under a plan that comes to a queue action leaves the hart as its tick did, and the action draws the pace on; another leaves the board.
use Rattle.std.proofs.Common.{◌≡◌, ◌≤◌, ◌+◌, ◌++◌, ◌∙◌, List, length, ℕ, Some, None, refl, sym, ap, subst, append-nil}
use Rattle.hart_model.specs.declared.probe.Probe.{Probe as LogEntry}
use Rattle.hart_model.specs.HartState.{HartState}
use Rattle.hart_model.specs.HartStep.{hart_step}
use Rattle.core_model.specs.Orders.{held_count, pace_after}
use Rattle.timer_plan.specs.Pace.{PaceState}
use Rattle.hart_advance.specs.Pacing.{IsPaceOf, due_hart, paced_step}
use Rattle.hart_advance.proofs.Advanced.{none-wants}
use Rattle.core_model.specs.BoardStep.{board_step_of}
use Rattle.kernel_core.specs.BoardStep.{IsWanted, CanGo, IsAfterBoardStep}
use Rattle.kernel_core.proofs.Wanted.{no-entries, room-left}
use Rattle.kernel_core.proofs.PacedGo.{comes-to, leaves-board, action-follows}
use Rattle.kernel_core.proofs.board_step.go_paced.Goals as goal

pub act-action-requires-clause-can : goal.act-action-requires-clause-can
act-action-requires-clause-can g c =
    let can = c.requires.can in
    let comes = comes-to c.args.code.now can.plan can.progress c.args.hart.now c.step_paced.new.hart c.in-Wants.call
    (c.in-Wants.ensures.hart can.plan can.progress can.is_pace) (c.in-Wants.ensures.wants can.plan can.progress can.is_pace c.in-Wants.call refl)
    (c.in-Wants.ensures.did can.plan can.progress can.is_pace) in
    let P : HartState → Type 0 = λ h. CanGo c.args.code.now c.args.board.now c.args.number h in
    subst P (sym comes.same) can.can

pub act-action-requires-clause-wanted : goal.act-action-requires-clause-wanted
act-action-requires-clause-wanted g c =
    let can = c.requires.can in
    let comes = comes-to c.args.code.now can.plan can.progress c.args.hart.now c.step_paced.new.hart c.in-Wants.call
    (c.in-Wants.ensures.hart can.plan can.progress can.is_pace) (c.in-Wants.ensures.wants can.plan can.progress can.is_pace c.in-Wants.call refl)
    (c.in-Wants.ensures.did can.plan can.progress can.is_pace) in
    let P : HartState → Type 0 = λ h. IsWanted c.in-Wants.call (hart_step c.args.code.now h) in
    subst P (sym comes.same) comes.wanted

pub act-action-requires-clause-room : goal.act-action-requires-clause-room
act-action-requires-clause-room g c =
    let can = c.requires.can in
    let comes = comes-to c.args.code.now can.plan can.progress c.args.hart.now c.step_paced.new.hart c.in-Wants.call
    (c.in-Wants.ensures.hart can.plan can.progress can.is_pace) (c.in-Wants.ensures.wants can.plan can.progress can.is_pace c.in-Wants.call refl)
    (c.in-Wants.ensures.did can.plan can.progress can.is_pace) in
    let same = room-left c.in-Wants.call (paced_step c.args.code.now can.plan can.progress c.args.hart.now) _ _ comes.wanted
    (c.in-Wants.ensures.room can.plan can.progress can.is_pace) in
    subst (λ (n : ℕ). 6 ≤ n) (sym same) c.requires.room

pub returns-in-Wants-clause-gone : goal.returns-in-Wants-clause-gone
returns-in-Wants-clause-gone g c plan progress is =
    let comes = comes-to c.args.code.now plan progress c.args.hart.now c.step_paced.new.hart c.in-Wants.call
    (c.in-Wants.ensures.hart plan progress is) (c.in-Wants.ensures.wants plan progress is c.in-Wants.call refl)
    (c.in-Wants.ensures.did plan progress is) in
    let P : HartState → Type 0 =
    λ h. IsAfterBoardStep (board_step_of c.args.code.now c.args.board.now.lists c.args.number h) c.act-action.new.board.lists c.act-action.new.hart (Some c.act-action.result) in
    subst P comes.same c.act-action.ensures.gone

pub returns-in-Wants-clause-pace : goal.returns-in-Wants-clause-pace
returns-in-Wants-clause-pace g c plan progress is =
    let comes = comes-to c.args.code.now plan progress c.args.hart.now c.step_paced.new.hart c.in-Wants.call
    (c.in-Wants.ensures.hart plan progress is) (c.in-Wants.ensures.wants plan progress is c.in-Wants.call refl)
    (c.in-Wants.ensures.did plan progress is) in
    let step = paced_step c.args.code.now plan progress c.args.hart.now in
    let due = due_hart plan progress c.args.hart.now in
    let after = c.act-action.new.hart in
    let G : HartState → Type 0 =
    λ h. IsAfterBoardStep (board_step_of c.args.code.now c.args.board.now.lists c.args.number h) c.act-action.new.board.lists after (Some c.act-action.result) in
    let N : HartState → Type 0 = λ h. IsPaceOf plan progress h c.step_paced.new.pace in
    let F : PaceState → Type 0 = λ p. IsPaceOf plan (pace_after progress (held_count after.held) (Some c.act-action.result)) after p in
    subst F (sym c.draw_if_taken.ensures.pace)
    (action-follows plan progress due after c.step_paced.new.pace (subst N comes.same (c.in-Wants.ensures.pace plan progress is))
    c.args.board.now.lists c.args.number c.in-Wants.call step c.act-action.new.board.lists c.act-action.result comes.wanted
    (subst G comes.same c.act-action.ensures.gone))

pub returns-in-Wants-clause-log : goal.returns-in-Wants-clause-log
returns-in-Wants-clause-log g c plan progress is log stood =
    let comes = comes-to c.args.code.now plan progress c.args.hart.now c.step_paced.new.hart c.in-Wants.call
    (c.in-Wants.ensures.hart plan progress is) (c.in-Wants.ensures.wants plan progress is c.in-Wants.call refl)
    (c.in-Wants.ensures.did plan progress is) in
    let none = no-entries c.in-Wants.call (paced_step c.args.code.now plan progress c.args.hart.now) comes.wanted in
    let S : List LogEntry → Type 0 = λ l. g.K.Keeper.stands c.step_paced.new.keeper l in
    let before = subst S (ap (λ (es : List LogEntry). log ++ es) none ∙ append-nil log) (c.in-Wants.ensures.log plan progress is log stood) in
    let P : HartState → Type 0 =
    λ h. g.K.Keeper.stands c.act-action.new.keeper (log ++ (board_step_of c.args.code.now c.args.board.now.lists c.args.number h).probes) in
    subst P comes.same (c.act-action.ensures.log log before)

pub returns-in-Wants-clause-room : goal.returns-in-Wants-clause-room
returns-in-Wants-clause-room g c plan progress is =
    let comes = comes-to c.args.code.now plan progress c.args.hart.now c.step_paced.new.hart c.in-Wants.call
    (c.in-Wants.ensures.hart plan progress is) (c.in-Wants.ensures.wants plan progress is c.in-Wants.call refl)
    (c.in-Wants.ensures.did plan progress is) in
    let same = room-left c.in-Wants.call (paced_step c.args.code.now plan progress c.args.hart.now) _ _ comes.wanted
    (c.in-Wants.ensures.room plan progress is) in
    let P : HartState → Type 0 =
    λ h. g.K.Keeper.room_of c.act-action.new.keeper + length (board_step_of c.args.code.now c.args.board.now.lists c.args.number h).probes
    ≡ g.K.Keeper.room_of c.args.keeper.now in
    subst P comes.same (c.act-action.ensures.room ∙ same)

pub returns-in-Ran : goal.returns-in-Ran
returns-in-Ran g c =
    let none = none-wants c.step_paced.result c.in-Ran.is in
    record {
      gone = λ plan progress is.
          (let due = due_hart plan progress c.args.hart.now in
          let step = paced_step c.args.code.now plan progress c.args.hart.now in
          let leaves = leaves-board c.args.board.now.lists c.args.number due step (λ call wants. none call (c.step_paced.ensures.did plan progress is ∙ wants)) in
          let P : HartState → Type 0 =
          λ h. IsAfterBoardStep (board_step_of c.args.code.now c.args.board.now.lists c.args.number due) c.args.board.now.lists h None in
          subst P (sym (c.step_paced.ensures.hart plan progress is)) leaves.gone);
      spare = refl;
      pace = λ plan progress is. c.step_paced.ensures.pace plan progress is;
      log = λ plan progress is log stood.
          (let due = due_hart plan progress c.args.hart.now in
          let step = paced_step c.args.code.now plan progress c.args.hart.now in
          let leaves = leaves-board c.args.board.now.lists c.args.number due step (λ call wants. none call (c.step_paced.ensures.did plan progress is ∙ wants)) in
          let S : List LogEntry → Type 0 = λ es. g.K.Keeper.stands c.step_paced.new.keeper (log ++ es) in
          subst S (sym leaves.probes) (c.step_paced.ensures.log plan progress is log stood));
      room = λ plan progress is.
          (let due = due_hart plan progress c.args.hart.now in
          let step = paced_step c.args.code.now plan progress c.args.hart.now in
          let leaves = leaves-board c.args.board.now.lists c.args.number due step (λ call wants. none call (c.step_paced.ensures.did plan progress is ∙ wants)) in
          let R : List LogEntry → Type 0 = λ es. g.K.Keeper.room_of c.step_paced.new.keeper + length es ≡ g.K.Keeper.room_of c.args.keeper.now in
          subst R (sym leaves.probes) (c.step_paced.ensures.room plan progress is));
    }
