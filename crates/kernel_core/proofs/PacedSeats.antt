-- The seats of a core that goes by the plans: at boot, and after a step of one hart more.
use Rattle.std.proofs.Common.{◌≡◌, ◌≢◌, ℕ, zero, suc, ◌<◌, ◌++◌, Bool, true, false, ◌⊎◌, inl, inr, List, [], ◌∷◌, length, get_or, set, map, replicate, slice_get, Option, option_map, Some, None, refl, sym, ap, ◌∙◌, subst, arith, length-set}
use Rattle.std.proofs.lemmas.List.{length-map, get_or-set_other, get_or-set_same, get_or-replicate}
use Rattle.std.proofs.lemmas.Option.{slice_get-map, slice_get_within, get_or_from_slice_get}
use Rattle.hart_model.specs.HartState.{HartState}
use Rattle.hart_model.specs.declared.probe.Probe.{Probe}
use Rattle.core_model.specs.declared.action.Action.{Action}
use Rattle.core_model.specs.declared.action.Action.TheVariants as actions
use Rattle.core_model.specs.declared.event.Event.TheVariants.{Go}
use Rattle.core_model.specs.declared.loaded.Loaded.{Loaded}
use Rattle.core_model.specs.declared.plan.Plan.{Plan}
use Rattle.core_model.specs.Loaded.{IsLoaded}
use Rattle.core_model.specs.Core.{CoreState, harts_from, core_from}
use Rattle.core_model.specs.Orders.{HartPace, CoarseState, boot_pace, plan_at, count_on, pace_after, IsLegalEntry}
use Rattle.core_model.proofs.Lists.{get-set, some-is}
use Rattle.core_invariant.specs.KernelStates.{KernelParts}
use Rattle.core_invariant.proofs.Items.{get-set_other}
use Rattle.core_invariant.proofs.Boot.{boot-hart, length-harts}
use Rattle.probe_log.specs.Counts.{StandFor}
use Rattle.timer_plan.specs.Pace.{PaceState}
use Rattle.hart_advance.proofs.CanAdvance.{paces-follow}
use Rattle.order_laws.specs.SteppedRuns.{stepped_from, AreLegalSteps}
use Rattle.order_laws.proofs.LegalOrders.{boots}
use Rattle.kernel_core.specs.Running.{IsAfterEvent, event_on, entries_of}
use Rattle.kernel_core.specs.PacedRun.{IsPaceIn, ticked_run}
use Rattle.kernel_core.specs.Seats.{SeatValue, IsSeatOf, boot_seat, stopped_by}
use Rattle.kernel_core.specs.History.{CoreValue, IsCoreOf, history_at_boot}
use Rattle.kernel_core.specs.PacedHistory.{PacedHistory, start_of, coarse_of, next_steps_of, next_entries_of, stepped, paced_at_boot, IsPacedCoreOf, stopped_seat, has_stopped_at}
use Rattle.kernel_core.proofs.HistoryMore.{kept-so}
use Rattle.kernel_core.proofs.SteppedMore.{paces-stay}
use Rattle.kernel_core.proofs.RunAfter.{index-is}
use Rattle.kernel_core.proofs.PacedRunAfter.{harts-of-paced}
use Rattle.kernel_core.proofs.PacedSteps.{core-told, steps-told}
use Rattle.kernel_core.proofs.PacedHistoryMore.{told-step, action-step, entries-step}

-- a place of a list that is long enough
pub item-at : {X : Type 0} (xs : List X) (i : ℕ) → i < length xs → (x : X) × (slice_get xs i ≡ Some x)
item-at [] i low = absurd (omega (arith, low))
item-at (x ∷ xs) zero low = (x, refl)
item-at (x ∷ xs) (suc i) low = item-at xs i (omega (arith, low))

-- AT BOOT
module _ {K : Type 0} (loaded : Loaded) (kernel : KernelParts) (is_loaded : IsLoaded loaded) (c : CoreValue K)
    (core : IsCoreOf (history_at_boot loaded kernel) c) (harts : c.run.harts ≡ harts_from 0 loaded.harts kernel.code.take)
    (seats : c.seats ≡ map boot_seat loaded.plans) (is_paced : c.is_paced ≡ true) where
  seat-at-boot : (i : ℕ) (h : HartState) (s : SeatValue) → slice_get c.run.harts i ≡ Some h → slice_get c.seats i ≡ Some s
      → IsSeatOf (plan_at loaded.plans i) (get_or (replicate loaded.harts boot_pace) i boot_pace) h s
  seat-at-boot i h s at seat =
      let at_boot = ap (λ (hs : List HartState). slice_get hs i) (sym harts) ∙ at in
      let low = slice_get_within (harts_from 0 loaded.harts kernel.code.take) i h at_boot in
      let count = length-harts 0 loaded.harts kernel.code.take in
      let plans = is_loaded.limits.plan_each in
      let plan = item-at loaded.plans i (omega (arith, low, count, plans)) in
      let is_plan : plan_at loaded.plans i ≡ plan.0 = get_or_from_slice_get loaded.plans i plan.0 _ plan.1 in
      let progress = get_or-replicate loaded.harts i boot_pace boot_pace (omega (arith, low, count)) in
      let same : s ≡ boot_seat plan.0 =
      some-is (sym seat ∙ ap (λ (ss : List SeatValue). slice_get ss i) seats ∙ slice_get-map boot_seat loaded.plans i ∙ ap (option_map boot_seat) plan.1) in
      let held : h.held ≡ None = sym (ap (λ (x : HartState). x.held) (boot-hart 0 loaded.harts kernel.code.take i h at_boot)) in
      let S : Plan → HartPace → SeatValue → Type 0 = λ p q x. IsSeatOf p q h x in
      let start : S plan.0 boot_pace (boot_seat plan.0) = record { pace = paces-follow.boots plan.0 h held; stopped = refl } in
      subst (λ p. S p (get_or (replicate loaded.harts boot_pace) i boot_pace) s) (sym is_plan)
      (subst (λ q. S plan.0 q s) (sym progress) (subst (S plan.0 boot_pace) (sym same) start))

  pub paced-boot : IsPacedCoreOf (paced_at_boot loaded kernel) c
  unfolding stepped_from AreLegalSteps core_from
  paced-boot = record {
    core = core;
    steps = record { begins = boots kernel core.is_kernel.kernel loaded is_loaded; steps = []; legal = tt; is = refl };
    is_paced = is_paced;
    seat_count = ap length seats ∙ length-map loaded.plans boot_seat ∙ is_loaded.limits.plan_each
        ∙ sym (ap length harts ∙ length-harts 0 loaded.harts kernel.code.take);
    seats = seat-at-boot;
  }

-- the core that was told something has the harts of its bundle, and a pace for each
module _ {K : Type 0} (t : PacedHistory) (c : CoreValue K) (is : IsPacedCoreOf t c) where
  pub hart-count : length c.run.harts ≡ t.history.loaded.harts
  hart-count =
      ap length is.core.harts ∙ (kept-so t.history is.core.is_kernel is.core.start).hart_count

  pace-count : length t.paces ≡ t.history.loaded.harts
  pace-count =
      ap (λ (co : CoarseState). length co.paces) is.steps.is
      ∙ paces-stay t.history.kernel.code.words t.history.loaded.plans (start_of t) is.steps.steps
      ∙ is.steps.begins.paces

  -- the seat of a hart that hasn't found nothing
  module _ (hart : ℕ) (low : hart < length c.run.harts) (goes_on : has_stopped_at c hart ≡ false) where
    pub record SeatHere : Type 0 where
      pub hart_state : HartState
      pub seat : SeatValue
      pub is_hart : slice_get c.run.harts hart ≡ Some hart_state
      pub is_seat : slice_get c.seats hart ≡ Some seat
      pub not_stopped : seat.has_stopped ≡ false
      pub of : IsSeatOf (plan_at t.history.loaded.plans hart) (get_or t.paces hart boot_pace) hart_state seat

    pub seat-here : SeatHere
    seat-here =
        let count = is.seat_count in
        let h = item-at c.run.harts hart low in
        let s = item-at c.seats hart (omega (arith, low, count)) in
        record {
          hart_state = h.0;
          seat = s.0;
          is_hart = h.1;
          is_seat = s.1;
          not_stopped = sym (ap stopped_seat s.1) ∙ goes_on;
          of = is.seats hart h.0 s.0 h.1 s.1;
        }

    pub legal-entry : IsLegalEntry (coarse_of t) hart
    legal-entry = record {
      exists = subst (λ (hs : List HartState). hart < length hs) is.core.harts low;
      goes_on = sym seat-here.of.stopped ∙ seat-here.not_stopped;
    }

-- whether the hart has found nothing, in code and in the definition
stopped-so : (action : Option Action) (progress : HartPace) (count : ℕ) (stopped : Bool) → stopped ≡ false → stopped ≡ progress.has_stopped
    → stopped_by action stopped ≡ (pace_after progress count action).has_stopped
stopped-so None progress count stopped none same = same
stopped-so (Some (actions.Took task)) progress count stopped none same = none
stopped-so (Some actions.Empty) progress count stopped none same = refl
stopped-so (Some (actions.GaveReady task)) progress count stopped none same = same
stopped-so (Some (actions.GaveDone task)) progress count stopped none same = same

-- What the code's step of a hart leaves of a core: the run by its clauses, and the hart's seat.
pub record GonePaced {K : Type 0} (hart : ℕ) (c after : CoreValue K) (action : Option Action) : Type 0 where
  pub exists : hart < length c.run.harts
  pub goes_on : has_stopped_at c hart ≡ false
  pub seat : SeatValue
  pub is_seat : slice_get c.seats hart ≡ Some seat
  pub pace : PaceState
  pub seats : after.seats ≡ set c.seats hart (record { pace = pace; has_stopped = stopped_by action seat.has_stopped })
  pub tasks : after.tasks ≡ c.tasks
  pub is_paced : after.is_paced ≡ true
  pub run : (plan : Plan) (progress : HartPace) → IsPaceIn c.run hart plan progress seat.pace
      → IsAfterEvent (ticked_run plan progress hart c.run) after.run (Go hart)
  pub made : (plan : Plan) (progress : HartPace) → IsPaceIn c.run hart plan progress seat.pace
      → action ≡ (event_on (ticked_run plan progress hart c.run) (Go hart)).action
  pub paced : (plan : Plan) (progress : HartPace) → IsPaceIn c.run hart plan progress seat.pace
      → IsPaceIn after.run hart plan (pace_after progress (count_on (slice_get after.run.harts hart)) action) pace
  pub logs : (plan : Plan) (progress : HartPace) → IsPaceIn c.run hart plan progress seat.pace → (log : List Probe) → StandFor c.log.tally log
      → StandFor after.log.tally (log ++ entries_of (ticked_run plan progress hart c.run) (Go hart))

-- a seat that is found is that of its number
pub seat-found : {K : Type 0} (t : PacedHistory) (c : CoreValue K) (hart : ℕ) (seat : SeatValue) → IsPacedCoreOf t c → hart < length c.run.harts
    → seat ≡ get_or c.seats hart seat → slice_get c.seats hart ≡ Some seat
seat-found t c hart seat is low found =
    let count = is.seat_count in index-is c.seats hart seat (omega (arith, low, count)) found

-- the pace in a seat stands for where the hart is in its plan
pub pace-in : {K : Type 0} (t : PacedHistory) (c : CoreValue K) (hart : ℕ) (seat : SeatValue) → IsPacedCoreOf t c → slice_get c.seats hart ≡ Some seat
    → IsPaceIn c.run hart (plan_at t.history.loaded.plans hart) (get_or t.paces hart boot_pace) seat.pace
pace-in t c hart seat is is_seat h at = (is.seats hart h seat at is_seat).pace

-- AFTER A STEP
module _ {K : Type 0} (t : PacedHistory) (hart : ℕ) (c after : CoreValue K) (action : Option Action) (is : IsPacedCoreOf t c)
    (gone : GonePaced hart c after action) where
  abbrev plan : Plan
  plan = plan_at t.history.loaded.plans hart

  abbrev progress : HartPace
  progress = get_or t.paces hart boot_pace

  abbrev here : SeatHere t c is hart gone.exists gone.goes_on
  here = seat-here t c is hart gone.exists gone.goes_on

  seat-same : here.seat ≡ gone.seat
  seat-same = some-is (sym here.is_seat ∙ gone.is_seat)

  its-pace : IsPaceIn c.run hart plan progress gone.seat.pace
  its-pace = pace-in t c hart gone.seat is gone.is_seat

  run : IsAfterEvent (ticked_run plan progress hart c.run) after.run (Go hart)
  run = gone.run plan progress its-pace

  core : IsCoreOf (stepped t hart).history after
  core = told-step t hart here.hart_state c is.core here.is_hart after gone.tasks run (gone.logs plan progress its-pace)

  pub action-is : action ≡ (next_steps_of t hart 1).action
  action-is = gone.made plan progress its-pace ∙ action-step t hart here.hart_state c is.core here.is_hart

  others : (i : ℕ) → i ≢ hart → slice_get after.run.harts i ≡ slice_get c.run.harts i
  others i ne =
      ap (λ (hs : List HartState). slice_get hs i) (run.harts ∙ harts-of-paced c.run hart here.hart_state here.is_hart plan progress)
      ∙ get-set_other c.run.harts hart i _ ne

  abbrev progress_then : HartPace
  progress_then = pace_after progress (count_on (slice_get after.run.harts hart)) action

  abbrev paces : List HartPace
  paces = (stepped t hart).paces

  progress-is : get_or paces hart boot_pace ≡ progress_then
  progress-is =
      let low = gone.exists in
      let count = hart-count t c is in
      let each = pace-count t c is in
      get_or-set_same t.paces hart _ boot_pace (omega (arith, low, count, each))
      ∙ ap (λ (hs : List HartState). pace_after progress (count_on (slice_get hs hart)) (next_steps_of t hart 1).action)
      (sym (core.harts ∙ ap (λ (x : CoreState). x.harts) (core-told t hart 1)))
      ∙ ap (pace_after progress (count_on (slice_get after.run.harts hart))) (sym action-is)

  seat-then : (i : ℕ) (h : HartState) (s : SeatValue) → slice_get after.run.harts i ≡ Some h → slice_get after.seats i ≡ Some s
      → IsSeatOf (plan_at t.history.loaded.plans i) (get_or paces i boot_pace) h s
  seat-then i h s at sits =
      by-place (get-set c.seats hart i _ s (ap (λ (ss : List SeatValue). slice_get ss i) (sym gone.seats) ∙ sits))
    where
      by-place : ((i ≡ hart) × (record { pace = gone.pace; has_stopped = stopped_by action gone.seat.has_stopped } ≡ s))
          ⊎ ((i ≢ hart) × (slice_get c.seats i ≡ Some s))
          → IsSeatOf (plan_at t.history.loaded.plans i) (get_or paces i boot_pace) h s
      by-place (inl same) =
          let at_hart : slice_get after.run.harts hart ≡ Some h = ap (slice_get after.run.harts) (sym same.0) ∙ at in
          let stopped = stopped-so action progress (count_on (slice_get after.run.harts hart)) gone.seat.has_stopped
          (ap (λ (x : SeatValue). x.has_stopped) (sym seat-same) ∙ here.not_stopped)
          (is.seats hart here.hart_state gone.seat here.is_hart gone.is_seat).stopped in
          let new : IsSeatOf plan progress_then h (record { pace = gone.pace; has_stopped = stopped_by action gone.seat.has_stopped }) =
          record { pace = gone.paced plan progress its-pace h at_hart; stopped = stopped } in
          let P : HartPace → SeatValue → Type 0 = λ p x. IsSeatOf plan p h x in
          let Q : ℕ → Type 0 = λ j. IsSeatOf (plan_at t.history.loaded.plans j) (get_or paces j boot_pace) h s in
          subst Q (sym same.0) (subst (λ p. P p s) (sym progress-is) (subst (P progress_then) same.1 new))
      by-place (inr other) =
          let P : HartPace → Type 0 = λ p. IsSeatOf (plan_at t.history.loaded.plans i) p h s in
          subst P (sym (get_or-set_other t.paces hart i _ boot_pace other.0)) (is.seats i h s (sym (others i other.0) ∙ at) other.1)

  pub paced-step : IsPacedCoreOf (stepped t hart) after
  paced-step = record {
    core = core;
    steps = steps-told t hart is.steps (legal-entry t c is hart gone.exists gone.goes_on);
    is_paced = gone.is_paced;
    seat_count = (
        let count = hart-count t c is in
        let old = is.seat_count in
        let new : length after.seats ≡ length c.seats = ap length gone.seats ∙ length-set c.seats hart _ in
        let next = ap length core.harts ∙ (kept-so (stepped t hart).history is.core.is_kernel is.core.start).hart_count in
        omega (arith, count, old, new, next));
    seats = seat-then;
  }

  -- what the entries of the step are
  pub entries-are : entries_of (ticked_run plan progress hart c.run) (Go hart) ≡ next_entries_of t hart 1
  entries-are = entries-step t hart here.hart_state c is.core here.is_hart
