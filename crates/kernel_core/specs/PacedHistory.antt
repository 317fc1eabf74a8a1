-- What a core was told that goes by the plans of its harts (this project's own): steps, each with the tick that the plan has before it, and so
-- the entries of an order.
use Rattle.std.specs.Prelude.{◌≡◌, ℕ, Bool, false, true, List, ◌++◌, length, drop, get_or, slice_get, Option, Some, None}
use Rattle.hart_model.specs.declared.probe.Probe.{Probe}
use Rattle.hart_model.specs.HartState.{HartState}
use Rattle.core_model.specs.declared.loaded.Loaded.{Loaded}
use Rattle.core_model.specs.Orders.{HartPace, CoarseState, StepsToAction, boot_pace, boot_coarse, plan_at, max_steps, after_steps, fine_of}
use Rattle.core_invariant.specs.KernelStates.{KernelParts}
use Rattle.order_laws.specs.CoarseInvariant.{IsCoarseKept}
use Rattle.order_laws.specs.CoarseRuns.{coarse_state}
use Rattle.order_laws.specs.SteppedRuns.{next_steps, stepped_from, AreLegalSteps}
use Rattle.order_laws.specs.LongLogs.{is_log_above}
use Rattle.kernel_core.specs.History.{History, history_at_boot, core_of, CoreValue, IsCoreOf}
use Rattle.kernel_core.specs.Seats.{SeatValue, IsSeatOf}

-- what it was told, and how far each hart was in its plan when the core began and is now
pub record PacedHistory : Type 0 where
  pub history : History
  pub start_paces : List HartPace
  pub paces : List HartPace

-- as a coarse run: where it began, and where it is
abbrev pub start_of : PacedHistory → CoarseState
start_of t = record { core = t.history.start; paces = t.start_paces }

abbrev pub coarse_of : PacedHistory → CoarseState
coarse_of t = record { core = core_of t.history; paces = t.paces }

-- told nothing yet that goes by the plans, with these paces
abbrev pub paced_from : History → List HartPace → PacedHistory
paced_from history paces = record { history = history; start_paces = paces; paces = paces }

abbrev pub paced_at_boot : Loaded → KernelParts → PacedHistory
paced_at_boot loaded kernel = paced_from (history_at_boot loaded kernel) (boot_coarse loaded kernel.code).paces

-- the next steps of a hart up to and with its queue action, and no more than so many
abbrev pub next_steps_of : PacedHistory → ℕ → ℕ → StepsToAction
next_steps_of t hart most = next_steps t.history.kernel.code.words t.history.loaded.plans (coarse_of t) hart most

-- the entries that they add to the log
abbrev pub next_entries_of : PacedHistory → ℕ → ℕ → List Probe
next_entries_of t hart most = drop (length (core_of t.history).log) (next_steps_of t hart most).core.log

-- before one of them, up to the queue action, the log has more entries than this
abbrev pub is_above_before_action : ℕ → PacedHistory → ℕ → Bool
is_above_before_action most t hart =
    is_log_above most t.history.kernel.code.words (core_of t.history) (next_steps_of t hart max_steps).events

-- told these steps of a hart
abbrev pub with_steps : PacedHistory → ℕ → StepsToAction → PacedHistory
with_steps t hart steps = record t {
  history = record t.history { events = t.history.events ++ steps.events };
  paces = (after_steps (coarse_of t) hart steps).paces;
}

-- told one step more of a hart, and told its steps up to and with its queue action
abbrev pub stepped : PacedHistory → ℕ → PacedHistory
stepped t hart = with_steps t hart (next_steps_of t hart 1)

abbrev pub acted : PacedHistory → ℕ → PacedHistory
acted t hart = with_steps t hart (next_steps_of t hart max_steps)

-- told the entries of an order
abbrev pub ordered : Loaded → KernelParts → List ℕ → PacedHistory
ordered loaded kernel order = record {
  history = record (history_at_boot loaded kernel) { events = fine_of loaded kernel.code order };
  start_paces = (boot_coarse loaded kernel.code).paces;
  paces = (coarse_state loaded kernel.code order).paces;
}

-- It is a run of steps from where it began, each of a hart that there is and that has not found nothing.
pub record IsPacedHistory (t : PacedHistory) : Type 0 where
  pub begins : IsCoarseKept t.history.kernel t.history.loaded (start_of t)
  pub steps : List ℕ
  pub legal : AreLegalSteps t.history.kernel.code.words t.history.loaded.plans (start_of t) steps
  pub is : coarse_of t ≡ stepped_from t.history.kernel.code.words t.history.loaded.plans (start_of t) steps

-- A core that was told this: its seats are where the harts are in their plans.
pub record IsPacedCoreOf {K : Type 0} (t : PacedHistory) (c : CoreValue K) : Type 0 where
  pub core : IsCoreOf t.history c
  pub steps : IsPacedHistory t
  pub is_paced : c.is_paced ≡ true
  pub seat_count : length c.seats ≡ length c.run.harts
  pub seats : (hart : ℕ) (h : HartState) (s : SeatValue) → slice_get c.run.harts hart ≡ Some h → slice_get c.seats hart ≡ Some s
      → IsSeatOf (plan_at t.history.loaded.plans hart) (get_or t.paces hart boot_pace) h s

-- whether the hart of a number has found nothing; one that there isn't has not
abbrev pub stopped_seat : Option SeatValue → Bool
stopped_seat None = false
stopped_seat (Some s) = s.has_stopped

abbrev pub has_stopped_at : {K : Type 0} → CoreValue K → ℕ → Bool
has_stopped_at c hart = stopped_seat (slice_get c.seats hart)
