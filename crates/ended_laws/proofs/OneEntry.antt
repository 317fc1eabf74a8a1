-- What a legal entry makes of a coarse run: one hart and its pace change, and where the hart has found nothing then, it holds nothing, and
-- nothing is ready.
use Rattle.std.proofs.Common.{◌≡◌, ℕ, true, false, true≢false, List, [], ◌∷◌, ◌++◌, set, slice_get, Option, Some, None, refl, sym, ◌∙◌, subst}
use Rattle.std.proofs.lemmas.List.{set-set}
use Rattle.isa_model.specs.declared.ends.End.{End}
use Rattle.hart_model.specs.declared.calls.QueueCall.{QueueCall}
use Rattle.hart_model.specs.declared.calls.QueueCall.TheVariants.{Take, GiveReady, GiveDone}
use Rattle.hart_model.specs.Context.{ContextState}
use Rattle.hart_model.specs.HartState.{HartState}
use Rattle.hart_model.specs.StepResult.{StepResult, Steps, Wants, Wedged}
use Rattle.hart_model.specs.Writes.{CellWrite}
use Rattle.hart_model.specs.HartStep.{hart_step}
use Rattle.core_model.specs.declared.loaded.Loaded.{Loaded}
use Rattle.core_model.specs.Board.{BoardState, Front, all_ready, front_of, take_from}
use Rattle.core_model.specs.BoardStep.{BoardStep, board_step_by_take, board_step_by_give_done, board_step_by_call, board_step}
use Rattle.core_model.specs.Loaded.{IsWithinLimits}
use Rattle.core_model.specs.Orders.{HartPace, CoarseState, pace_after, count_on, after_entry, IsLegalEntry}
use Rattle.core_invariant.specs.KernelStates.{KernelParts, IsKernel}
use Rattle.core_invariant.proofs.Items.{get-set_same}
use Rattle.order_laws.specs.CoarseInvariant.{IsCoarseKept}
use Rattle.order_laws.specs.OwnSteps.{acted_steps}
use Rattle.order_laws.proofs.Entries.{GoesOn, entry-goes-on, ItsAction, its-turn, by_steps, entry-is}
use Rattle.order_laws.proofs.LegalOrders.{one, turns}

-- A coarse run whose hart of this number has another state and another pace.
pub record IsOneChanged (before : CoarseState) (hart : ℕ) (after : CoarseState) : Type 0 where
  pub state : HartState
  pub pace : HartPace
  pub harts : after.core.harts ≡ set before.core.harts hart state
  pub paces : after.paces ≡ set before.paces hart pace
  pub here : slice_get after.paces hart ≡ Some pace
  pub stopped : pace.has_stopped ≡ true → (state.held ≡ None) × (all_ready after.core.board.ready ≡ [])

-- where there is no front, none is ready
none-ready : (first second : List ContextState) → front_of first second ≡ None → first ++ second ≡ []
none-ready [] [] e = refl
none-ready [] (c ∷ cs) e = absurd (cc e)
none-ready (c ∷ cs) second e = absurd (cc e)

-- A step over a board whose hart goes on: it has not found nothing after it, but where the step was an empty take.
module _ (pace : HartPace) (goes_on : pace.has_stopped ≡ false) (count : ℕ) (b : BoardState) (hart : ℕ) (h : HartState) where
  abbrev Ends : BoardStep → Type 0
  Ends s = (pace_after pace count s.action).has_stopped ≡ true → (s.hart.held ≡ None) × (all_ready s.board.ready ≡ [])

  stays-on : {P : Type 0} → pace.has_stopped ≡ true → P
  stays-on stopped = absurd (true≢false (sym stopped ∙ goes_on))

  ends-take : (early_writes : List CellWrite) (rd next : ℕ) (front : Option Front) → front_of b.ready.first b.ready.second ≡ front
      → Ends (board_step_by_take h early_writes rd next (take_from b hart front))
  ends-take early_writes rd next None e stopped = (refl, none-ready b.ready.first b.ready.second e)
  ends-take early_writes rd next (Some f) e stopped = absurd (cc stopped)

  ends-done : (early_writes : List CellWrite) (next : ℕ) (x : ContextState) (end : Option End)
      → Ends (board_step_by_give_done b hart h early_writes next x end)
  ends-done early_writes next x None stopped = stays-on stopped
  ends-done early_writes next x (Some end) stopped = stays-on stopped

  ends-call : (call : QueueCall) (early_writes : List CellWrite) (rd next : ℕ) (held : Option ContextState)
      → Ends (board_step_by_call b hart h call early_writes rd next held)
  ends-call Take early_writes rd next held stopped =
      ends-take early_writes rd next (front_of b.ready.first b.ready.second) refl stopped
  ends-call GiveReady early_writes rd next None stopped = stays-on stopped
  ends-call GiveReady early_writes rd next (Some x) stopped = stays-on stopped
  ends-call GiveDone early_writes rd next None stopped = stays-on stopped
  ends-call GiveDone early_writes rd next (Some x) stopped = ends-done early_writes next x x.end stopped

  ends-step : (step : StepResult) → Ends (board_step b hart h step)
  ends-step (Steps after probes did) stopped = stays-on stopped
  ends-step (Wants call early_writes rd next) stopped = ends-call call early_writes rd next h.held stopped
  ends-step Wedged stopped = stays-on stopped

module _ (k : KernelParts) (kernel : IsKernel k) (loaded : Loaded) (limits : IsWithinLimits loaded) where
  module _ (co : CoarseState) (kept : IsCoarseKept k loaded co) (hart : ℕ) (g : GoesOn loaded co hart) (a : ItsAction k loaded co hart g) where
    abbrev left : CoarseState
    left = by_steps k loaded (one k kernel loaded) co kept.core hart g a (acted_steps k.code.words co.core hart a.at)

    abbrev step : BoardStep
    step = board_step co.core.board hart a.at.hart (hart_step k.code.words a.at.hart)

    abbrev its_pace : HartPace
    its_pace = pace_after g.pace (count_on (slice_get left.core.harts hart)) step.action

    left-changed : IsOneChanged co hart left
    left-changed = record {
      state = step.hart;
      pace = its_pace;
      harts = set-set co.core.harts hart a.at.hart step.hart;
      paces = refl;
      here = get-set_same co.paces hart g.pace its_pace g.is_pace;
      stopped = ends-step g.pace g.goes_on (count_on (slice_get left.core.harts hart)) co.core.board hart a.at.hart (hart_step k.code.words a.at.hart);
    }

  pub entry-changes : (co : CoarseState) → IsCoarseKept k loaded co → (hart : ℕ) → IsLegalEntry co hart
      → IsOneChanged co hart (after_entry k.code.words loaded.plans co hart)
  entry-changes co kept hart legal =
      let g = entry-goes-on k loaded limits.plan_each co kept.core kept.paces hart legal in
      let a = (its-turn k loaded (turns k kernel loaded limits) co kept hart g).action in
      subst (IsOneChanged co hart) (sym (entry-is k loaded (one k kernel loaded) co kept.core hart g a)) (left-changed co kept hart g a)
