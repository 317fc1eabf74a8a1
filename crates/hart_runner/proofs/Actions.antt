-- What kind of action a step over a board comes to.
use Rattle.std.proofs.Common.{◌≡◌, ℕ, List, [], ◌∷◌, ◌++◌, Option, Some, None, refl, sym, ap, ◌∙◌, subst}
use Rattle.std.specs.Prelude.{⊤}
use Rattle.isa_model.specs.declared.ends.End.{End}
use Rattle.hart_model.specs.declared.calls.QueueCall.TheVariants.{Take, GiveReady, GiveDone}
use Rattle.hart_model.specs.Context.{ContextState}
use Rattle.hart_model.specs.HartState.{HartState}
use Rattle.hart_model.specs.StepResult.{StepResult, Steps, Wants, Wedged}
use Rattle.hart_model.specs.Writes.{CellWrite}
use Rattle.hart_state.specs.Asked.{AsksTake}
use Rattle.core_model.specs.declared.action.Action.{Action}
use Rattle.core_model.specs.declared.action.Action.TheVariants as actions
use Rattle.core_model.specs.Board.{BoardState, Taken, all_ready, front_of, take_from, take_of}
use Rattle.core_model.specs.BoardStep.{board_step_by_take, board_step_by_give_done, board_step_by_call, board_step}
use Rattle.core_model.specs.Orders.{HartPace, pace_after}
use Rattle.ready_queue.specs.declared.kind.Kind.{Kind}
use Rattle.ready_queue.specs.declared.kind.Kind.TheVariants.{Ready, Done}
use Rattle.timer_plan.specs.Pace.{PaceState}
use Rattle.kernel_core.specs.BoardStep.{drawn_by, GivesKind, IsAfterBoardStep}

-- A GIVE: the pace stays
abbrev pub IsGive : Action → Type 0
IsGive (actions.Took task) = ⊥
IsGive actions.Empty = ⊥
IsGive (actions.GaveReady task) = ⊤
IsGive (actions.GaveDone task) = ⊤

pub pace-stays : (action : Action) → IsGive action → (p : HartPace) (count : ℕ) → pace_after p count (Some action) ≡ p
pace-stays (actions.Took task) gave p count = absurd gave
pace-stays actions.Empty gave p count = absurd gave
pace-stays (actions.GaveReady task) gave p count = refl
pace-stays (actions.GaveDone task) gave p count = refl

pub draws-none : (action : Action) → IsGive action → (pace : PaceState) → drawn_by action pace ≡ pace
draws-none (actions.Took task) gave pace = absurd gave
draws-none actions.Empty gave pace = absurd gave
draws-none (actions.GaveReady task) gave pace = refl
draws-none (actions.GaveDone task) gave pace = refl

module _ (b after : BoardState) (number : ℕ) (h g : HartState) where
  -- a give of what is held, if anything is
  gave-ready : (early_writes : List CellWrite) (rd next : ℕ) (held : Option ContextState) (action : Action)
      → IsAfterBoardStep (board_step_by_call b number h GiveReady early_writes rd next held) after g (Some action) → IsGive action
  gave-ready early_writes rd next None action gone = absurd (cc gone.action_is)
  gave-ready early_writes rd next (Some c) action gone =
      let same : action ≡ actions.GaveReady c.body.task_no = cc gone.action_is in subst IsGive (sym same) tt

  gave-end : (early_writes : List CellWrite) (next : ℕ) (c : ContextState) (end : Option End) (action : Action)
      → IsAfterBoardStep (board_step_by_give_done b number h early_writes next c end) after g (Some action) → IsGive action
  gave-end early_writes next c None action gone = absurd (cc gone.action_is)
  gave-end early_writes next c (Some end) action gone =
      let same : action ≡ actions.GaveDone c.body.task_no = cc gone.action_is in subst IsGive (sym same) tt

  gave-done : (early_writes : List CellWrite) (rd next : ℕ) (held : Option ContextState) (action : Action)
      → IsAfterBoardStep (board_step_by_call b number h GiveDone early_writes rd next held) after g (Some action) → IsGive action
  gave-done early_writes rd next None action gone = absurd (cc gone.action_is)
  gave-done early_writes rd next (Some c) action gone = gave-end early_writes next c c.end action gone

  pub give-made : (kind : Kind) (step : StepResult) (action : Action) → GivesKind kind step
      → IsAfterBoardStep (board_step b number h step) after g (Some action) → IsGive action
  give-made Ready (Wants GiveReady early_writes rd next) action gives gone = gave-ready early_writes rd next h.held action gone
  give-made Done (Wants GiveDone early_writes rd next) action gives gone = gave-done early_writes rd next h.held action gone
  give-made Ready (Wants Take early_writes rd next) action gives gone = absurd gives
  give-made Ready (Wants GiveDone early_writes rd next) action gives gone = absurd gives
  give-made Ready (Steps hart probes did) action gives gone = absurd gives
  give-made Ready Wedged action gives gone = absurd gives
  give-made Done (Wants Take early_writes rd next) action gives gone = absurd gives
  give-made Done (Wants GiveReady early_writes rd next) action gives gone = absurd gives
  give-made Done (Steps hart probes did) action gives gone = absurd gives
  give-made Done Wedged action gives gone = absurd gives

-- A TAKE gets a context, or finds that none is ready.
pub data TookOr (b : BoardState) (action : Action) : Type 0 where
  Got : (task : ℕ) → action ≡ actions.Took task → TookOr b action
  Nothing : action ≡ actions.Empty → all_ready b.ready ≡ [] → TookOr b action

front-none : (b : BoardState) (number : ℕ) (first second : List ContextState) → (take_from b number (front_of first second)).got ≡ None
    → first ++ second ≡ []
front-none b number (c ∷ cs) second none = absurd (cc none)
front-none b number [] (c ∷ cs) none = absurd (cc none)
front-none b number [] [] none = refl

module _ (b after : BoardState) (number : ℕ) (h g : HartState) where
  took-by : (early_writes : List CellWrite) (rd next : ℕ) (taken : Taken) (got : Option ContextState) → taken.got ≡ got → (action : Action)
      → (taken.got ≡ None → all_ready b.ready ≡ [])
      → IsAfterBoardStep (board_step_by_take h early_writes rd next taken) after g (Some action) → TookOr b action
  took-by early_writes rd next taken None none action ready gone =
      let same : Some action ≡ Some actions.Empty =
      gone.action_is ∙ ap (λ o. (board_step_by_take h early_writes rd next (record { board = taken.board; got = o })).action) none in
      Nothing (cc same) (ready none)
  took-by early_writes rd next taken (Some c) some action ready gone =
      let same : Some action ≡ Some (actions.Took c.body.task_no) =
      gone.action_is ∙ ap (λ o. (board_step_by_take h early_writes rd next (record { board = taken.board; got = o })).action) some in
      Got c.body.task_no (cc same)

  pub take-made : (step : StepResult) (action : Action) → AsksTake step → IsAfterBoardStep (board_step b number h step) after g (Some action)
      → TookOr b action
  take-made (Wants Take early_writes rd next) action asks gone =
      took-by early_writes rd next (take_of b number) (take_of b number).got refl action
      (λ none. front-none b number b.ready.first b.ready.second none) gone
  take-made (Wants GiveReady early_writes rd next) action asks gone = absurd asks
  take-made (Wants GiveDone early_writes rd next) action asks gone = absurd asks
  take-made (Steps hart probes did) action asks gone = absurd asks
  take-made Wedged action asks gone = absurd asks
