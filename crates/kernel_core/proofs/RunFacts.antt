-- A hart of a core that is kept may make its step, and what the step leaves is what the event makes of the core.
use Rattle.std.proofs.Common.{◌≡◌, ℕ, ◌+◌, ◌<◌, List, [], length, slice_get, Option, Some, None, refl, sym, ap, subst, arith}
use Rattle.std.proofs.lemmas.List.Elements.{All-nil}
use Rattle.hart_model.specs.declared.calls.QueueCall.TheVariants.{Take, GiveReady, GiveDone}
use Rattle.hart_model.specs.Context.{ContextState}
use Rattle.hart_model.specs.HartState.{HartState}
use Rattle.hart_model.specs.StepResult.{StepResult, Steps, Wants, Wedged}
use Rattle.hart_model.specs.HartStep.{hart_step}
use Rattle.hart_state.specs.Asked.{AsksTake}
use Rattle.hart_state.specs.UserDeed.{CanCount}
use Rattle.core_model.specs.declared.event.Event.{Event}
use Rattle.core_model.specs.declared.event.Event.TheVariants.{Go}
use Rattle.core_model.specs.declared.loaded.Loaded.{Loaded}
use Rattle.core_model.specs.BoardStep.{board_step_of}
use Rattle.core_model.specs.Core.{CoreState, with_board_step, after_go}
use Rattle.core_model.specs.Explained.{IsExplained}
use Rattle.core_model.specs.Board.{BoardState}
use Rattle.ready_queue.specs.declared.kind.Kind.{Kind}
use Rattle.ready_queue.specs.declared.kind.Kind.TheVariants.{Ready, Done}
use Rattle.ready_queue.specs.Gives.{HasNothingOut}
use Rattle.core_invariant.specs.KernelStates.{KernelParts, IsKernel}
use Rattle.core_invariant.specs.Invariant.{IsCoreKept, HeldCountFits}
use Rattle.core_invariant.proofs.CountFits.{count-fits}
use Rattle.core_invariant.proofs.Actions.{may-take, may-give-ready, may-give-done}
use Rattle.core_invariant.proofs.OutFits.{out-fits}
use Rattle.core_invariant.proofs.Composition.{event-kept}
use Rattle.order_laws.proofs.LegalOrders.{one}
use Rattle.resume_laws.proofs.MadeOfParts.{valid-task}
use Rattle.kernel_core.specs.BoardStep.{GivesKind, MayGive, CanGo}
use Rattle.kernel_core.specs.Running.{RunValue, IsRunKept, IsAfterEvent, core_of_run, event_on}

count_fits : (held : Option ContextState) → HeldCountFits held → CanCount held
count_fits None fits = tt
count_fits (Some c) fits = omega (arith, fits)

module _ (r : RunValue) (loaded : Loaded) (run : IsRunKept loaded r) (number : ℕ) (h : HartState) (is : slice_get r.harts number ≡ Some h) where
  takes-by : (step : StepResult) → hart_step r.kernel.code.words h ≡ step → AsksTake step → HasNothingOut r.board.lists number
  takes-by (Wants Take early_writes rd next) e asks = (may-take r.kernel loaded (one r.kernel run.is_kernel loaded) (core_of_run r) run.kept number h is early_writes rd next e).1
  takes-by (Wants GiveReady early_writes rd next) e asks = absurd asks
  takes-by (Wants GiveDone early_writes rd next) e asks = absurd asks
  takes-by (Steps hart probes did) e asks = absurd asks
  takes-by Wedged e asks = absurd asks

  gives-by : (kind : Kind) (step : StepResult) → hart_step r.kernel.code.words h ≡ step → GivesKind kind step → MayGive r.board.lists number h kind
  gives-by Ready (Wants GiveReady early_writes rd next) e gives =
      let may = may-give-ready r.kernel loaded (one r.kernel run.is_kernel loaded) (core_of_run r) run.kept number h is early_writes rd next e in
      record { context = may.context; held = may.held; is_out = may.is_out; can_be = (may.no_end, may.stands) }
  gives-by Done (Wants GiveDone early_writes rd next) e gives =
      let may = may-give-done r.kernel loaded (one r.kernel run.is_kernel loaded) (core_of_run r) run.kept number h is early_writes rd next e in
      record { context = may.context; held = may.held; is_out = may.is_out; can_be = (may.has_end, may.scrubbed) }
  gives-by Ready (Wants Take early_writes rd next) e gives = absurd gives
  gives-by Ready (Wants GiveDone early_writes rd next) e gives = absurd gives
  gives-by Ready (Steps hart probes did) e gives = absurd gives
  gives-by Ready Wedged e gives = absurd gives
  gives-by Done (Wants Take early_writes rd next) e gives = absurd gives
  gives-by Done (Wants GiveReady early_writes rd next) e gives = absurd gives
  gives-by Done (Steps hart probes did) e gives = absurd gives
  gives-by Done Wedged e gives = absurd gives

  -- The hart may make its step, where an action is left.
  pub can-go : number < length r.harts → length r.board.lists.order < r.actions → CanGo r.kernel.code.words r.board number h
  can-go there left =
      let harts = run.kept.hart_count in
      let most = run.within.harts_high in
      let few = out-fits r.kernel loaded (core_of_run r) run.kept in
      let room = run.room in
      record {
        is_hart = omega (arith, there, harts, most);
        count = count_fits h.held (count-fits r.kernel loaded.tasks number (valid-task loaded run.within) h (run.kept.harts number h is));
        spare = omega (arith, few, most, room, left);
        takes = λ asks. takes-by (hart_step r.kernel.code.words h) refl asks;
        gives = λ kind gives. gives-by kind (hart_step r.kernel.code.words h) refl gives;
      }

-- a core that is kept is so without its log
without-log : (k : KernelParts) (loaded : Loaded) (c : CoreState) → IsCoreKept k loaded c → IsCoreKept k loaded (record c { log = [] })
without-log k loaded c kept = record {
  hart_count = kept.hart_count;
  harts = kept.harts;
  homes = kept.homes;
  slot_once = kept.slot_once;
  ready_slots = kept.ready_slots;
  out_slots = kept.out_slots;
  waiting = kept.waiting;
  ready = kept.ready;
  ended = kept.ended;
  out = kept.out;
  out_exists = kept.out_exists;
  log = All-nil (IsExplained loaded.tasks);
}

-- What the step leaves is what the event makes of the core.
pub go-so : (r : RunValue) (number : ℕ) (h : HartState) → slice_get r.harts number ≡ Some h
    → event_on r (Go number) ≡ with_board_step (core_of_run r) number (board_step_of r.kernel.code.words r.board.lists number h)
go-so r number h is = ap (after_go r.kernel.code.words (core_of_run r) number) is

-- After an event the core is kept.
pub kept-after : (r after : RunValue) (loaded : Loaded) (event : Event) → IsRunKept loaded r → IsAfterEvent r after event
    → length after.board.lists.order + after.board.spare ≡ length r.board.lists.order + r.board.spare → IsRunKept loaded after
kept-after r after loaded event run is room =
    let core = event-kept r.kernel loaded (one r.kernel run.is_kernel loaded) (core_of_run r) run.kept event in
    let left = run.room in
    let same : after.actions ≡ r.actions = is.actions in
    let K : KernelParts → Type 0 = λ k. IsKernel k in
    record {
      within = run.within;
      is_kernel = subst K (sym is.kernel) run.is_kernel;
      kept = kept-as r after loaded event is core;
      room = omega (arith, room, left, same);
    }
  where
    kept-as : (r after : RunValue) (loaded : Loaded) (event : Event) → IsAfterEvent r after event → IsCoreKept r.kernel loaded (event_on r event).core → IsCoreKept after.kernel loaded (core_of_run after)
    kept-as r after loaded event is core =
        let B : BoardState → Type 0 = λ b. IsCoreKept after.kernel loaded (record { board = b; harts = after.harts; log = [] }) in
        let H : List HartState → Type 0 = λ hs. IsCoreKept after.kernel loaded (record { board = (event_on r event).core.board; harts = hs; log = [] }) in
        let K : KernelParts → Type 0 = λ k. IsCoreKept k loaded (record { board = (event_on r event).core.board; harts = (event_on r event).core.harts; log = [] }) in
        subst B (sym is.board) (subst H (sym is.harts) (subst K (sym is.kernel) (without-log r.kernel loaded (event_on r event).core core)))
