-- A step under a plan, over a board: where it comes to a queue action, the action draws the pace on; where it doesn't, the board stays.
use Rattle.std.proofs.Common.{◌≡◌, ℕ, List, Option, Some, None, refl, sym, ap, ◌∙◌, subst}
use Rattle.isa_model.specs.declared.ends.End.{End}
use Rattle.hart_model.specs.declared.calls.Did.TheVariants as dids
use Rattle.hart_model.specs.declared.calls.QueueCall.{QueueCall}
use Rattle.hart_model.specs.declared.calls.QueueCall.TheVariants.{Take, GiveReady, GiveDone}
use Rattle.hart_model.specs.Context.{ContextState}
use Rattle.hart_model.specs.HartState.{HartState}
use Rattle.hart_model.specs.Writes.{CellWrite}
use Rattle.hart_model.specs.StepResult.{StepResult, Steps, Wants, Wedged, did_of, hart_after, probes_of}
use Rattle.core_model.specs.declared.action.Action.{Action}
use Rattle.core_model.specs.declared.action.Action.TheVariants as actions
use Rattle.core_model.specs.declared.plan.Plan.{Plan}
use Rattle.core_model.specs.Board.{BoardState, Taken, take_of}
use Rattle.core_model.specs.BoardStep.{board_step_by_take, board_step_by_give_done, board_step_by_call, board_step}
use Rattle.core_model.specs.Orders.{HartPace, held_count, pace_after}
use Rattle.timer_plan.specs.Pace.{PaceState}
use Rattle.hart_state.specs.Asked.{AsksFor}
use Rattle.hart_advance.specs.Pacing.{IsPaceOf, due_hart, paced_step}
use Rattle.hart_advance.proofs.CanAdvance.{paces-follow}
use Rattle.kernel_core.specs.BoardStep.{drawn_by, IsWanted, IsAfterBoardStep}
use Rattle.kernel_core.proofs.Wanted.{is-wanted, wanted-stays}

-- a step that comes to none leaves the board
pub record LeavesBoard (b : BoardState) (number : ℕ) (h : HartState) (step : StepResult) : Type 0 where
  pub gone : IsAfterBoardStep (board_step b number h step) b (hart_after h step) None
  pub probes : (board_step b number h step).probes ≡ probes_of step

pub leaves-board : (b : BoardState) (number : ℕ) (h : HartState) (step : StepResult) → ((call : QueueCall) → did_of step ≡ dids.Wants call → ⊥)
    → LeavesBoard b number h step
leaves-board b number h (Steps after probes did) none = record { gone = record { board = refl; hart = refl; action_is = refl }; probes = refl }
leaves-board b number h (Wants call early_writes rd next) none = absurd (none call refl)
leaves-board b number h Wedged none = record { gone = record { board = refl; hart = refl; action_is = refl }; probes = refl }

-- THE PACE after an action
module _ (plan : Plan) (progress : HartPace) (h g : HartState) (pace : PaceState) (is : IsPaceOf plan progress h pace) where
  abbrev Follows : Action → PaceState → Type 0
  Follows action next = IsPaceOf plan (pace_after progress (held_count g.held) (Some action)) g next

  -- by what a take got
  by-taken : (early_writes : List CellWrite) (rd next : ℕ) (taken : Taken) (got : Option ContextState) → taken.got ≡ got → (b : BoardState) (action : Action)
      → IsAfterBoardStep (board_step_by_take h early_writes rd next taken) b g (Some action) → Follows action (drawn_by action pace)
  by-taken early_writes rd next taken None none b action gone =
      let same : Some action ≡ Some actions.Empty =
      gone.action_is ∙ ap (λ o. (board_step_by_take h early_writes rd next (record { board = taken.board; got = o })).action) none in
      let held : g.held ≡ None = ap (λ (x : HartState). x.held) gone.hart ∙ none in
      let empty : action ≡ actions.Empty = cc same in
      subst (λ a. Follows a (drawn_by a pace)) (sym empty)
      (paces-follow.others plan progress h g pace (Some actions.Empty) (λ task e. cc e) held is)
  by-taken early_writes rd next taken (Some c) some b action gone =
      let same : Some action ≡ Some (actions.Took c.body.task_no) =
      gone.action_is ∙ ap (λ o. (board_step_by_take h early_writes rd next (record { board = taken.board; got = o })).action) some in
      let took : action ≡ actions.Took c.body.task_no = cc same in
      subst (λ a. Follows a (drawn_by a pace)) (sym took) (paces-follow.takes plan progress h g pace c.body.task_no is)

  -- after a give the hart holds nothing
  given : (action other : Action) → action ≡ other → drawn_by other pace ≡ pace → ((task : ℕ) → ¬ (Some other ≡ Some (actions.Took task)))
      → g.held ≡ None → Follows action (drawn_by action pace)
  given action other same stays no_take none =
      let P : PaceState → Type 0 = λ p. Follows other p in
      subst (λ a. Follows a (drawn_by a pace)) (sym same)
      (subst P (sym stays) (paces-follow.others plan progress h g pace (Some other) no_take none is))

  by-end : (b : BoardState) (number : ℕ) (early_writes : List CellWrite) (next : ℕ) (c : ContextState) (end : Option End) (after : BoardState) (action : Action)
      → IsAfterBoardStep (board_step_by_give_done b number h early_writes next c end) after g (Some action) → Follows action (drawn_by action pace)
  by-end b number early_writes next c None after action gone = absurd (cc gone.action_is)
  by-end b number early_writes next c (Some end) after action gone =
      given action (actions.GaveDone c.body.task_no) (cc gone.action_is) refl (λ task e. cc e) (ap (λ (x : HartState). x.held) gone.hart)

  by-call : (b : BoardState) (number : ℕ) (call : QueueCall) (early_writes : List CellWrite) (rd next : ℕ) (held : Option ContextState) (after : BoardState)
      (action : Action) → IsAfterBoardStep (board_step_by_call b number h call early_writes rd next held) after g (Some action)
      → Follows action (drawn_by action pace)
  by-call b number Take early_writes rd next held after action gone =
      by-taken early_writes rd next (take_of b number) (take_of b number).got refl after action gone
  by-call b number GiveReady early_writes rd next None after action gone = absurd (cc gone.action_is)
  by-call b number GiveDone early_writes rd next None after action gone = absurd (cc gone.action_is)
  by-call b number GiveReady early_writes rd next (Some c) after action gone =
      given action (actions.GaveReady c.body.task_no) (cc gone.action_is) refl (λ task e. cc e) (ap (λ (x : HartState). x.held) gone.hart)
  by-call b number GiveDone early_writes rd next (Some c) after action gone = by-end b number early_writes next c c.end after action gone

  pub action-follows : (b : BoardState) (number : ℕ) (call : QueueCall) (step : StepResult) (after : BoardState) (action : Action) → IsWanted call step
      → IsAfterBoardStep (board_step b number h step) after g (Some action) → Follows action (drawn_by action pace)
  action-follows b number call (Wants wants early_writes rd next) after action wanted gone = by-call b number wants early_writes rd next h.held after action gone
  action-follows b number call (Steps hart probes did) after action wanted gone = absurd wanted
  action-follows b number call Wedged after action wanted gone = absurd wanted

-- a hart under its plan that comes to a queue action: it is as the tick left it, and wants it
pub record ComesTo (code : List ℕ) (plan : Plan) (progress : HartPace) (h g : HartState) (call : QueueCall) : Type 0 where
  pub same : g ≡ due_hart plan progress h
  pub wanted : IsWanted call (paced_step code plan progress h)

pub comes-to : (code : List ℕ) (plan : Plan) (progress : HartPace) (h g : HartState) (call : QueueCall)
    → g ≡ hart_after (due_hart plan progress h) (paced_step code plan progress h) → AsksFor call (paced_step code plan progress h)
    → dids.Wants call ≡ did_of (paced_step code plan progress h) → ComesTo code plan progress h g call
comes-to code plan progress h g call is asks did =
    let wanted = is-wanted call (paced_step code plan progress h) asks (sym did) in
    record { same = is ∙ wanted-stays call (due_hart plan progress h) (paced_step code plan progress h) wanted; wanted = wanted }
