-- A core that was told something that goes by the plans, and is told one step more of a hart.
use Rattle.std.proofs.Common.{◌≡◌, ℕ, Bool, true, false, List, [], ◌∷◌, ◌++◌, length, drop, get_or, slice_get, Option, Some, refl, sym, ap, ◌∙◌, subst, append-nil, append_assoc, if◌then◌else◌}
use Rattle.std.proofs.Math.Seq.{drop-append_seam}
use Rattle.hart_model.specs.declared.probe.Probe.{Probe}
use Rattle.hart_model.specs.HartState.{HartState, tick_of}
use Rattle.core_model.specs.declared.event.Event.{Event}
use Rattle.core_model.specs.declared.event.Event.TheVariants.{Go, Tick}
use Rattle.core_model.specs.declared.plan.Plan.{Plan}
use Rattle.core_model.specs.Core.{CoreState, after_tick, without_action, event_result}
use Rattle.core_model.specs.Orders.{HartPace, boot_pace, plan_at, is_tick_due, events_of_step, result_of}
use Rattle.core_invariant.proofs.Items.{set-same}
use Rattle.probe_log.specs.Counts.{StandFor}
use Rattle.order_laws.proofs.OneStep.{one-step}
use Rattle.kernel_core.specs.Running.{RunValue, IsAfterEvent, core_of_run, event_on, entries_of}
use Rattle.kernel_core.specs.PacedRun.{with_due, ticked_run}
use Rattle.kernel_core.specs.History.{History, CoreValue, IsCoreOf, given, core_of}
use Rattle.kernel_core.specs.PacedHistory.{PacedHistory, next_steps_of, next_entries_of, stepped}
use Rattle.kernel_core.proofs.RunAfter.{with_board_and_hart, after-tick-of}
use Rattle.kernel_core.proofs.HistoryMore.{told-more, next-core, entries-told, action-told}
use Rattle.kernel_core.proofs.PacedSteps.{core-told}

module _ {K : Type 0} (t : PacedHistory) (hart : ℕ) (h : HartState) (c : CoreValue K) (is : IsCoreOf t.history c)
    (there : slice_get c.run.harts hart ≡ Some h) where
  abbrev words : List ℕ
  words = t.history.kernel.code.words

  abbrev plan : Plan
  plan = plan_at t.history.loaded.plans hart

  abbrev progress : HartPace
  progress = get_or t.paces hart boot_pace

  abbrev events : Bool → List Event
  events due = if due then Tick hart ∷ Go hart ∷ [] else Go hart ∷ []

  -- told the events of the step
  abbrev after_events : Bool → History
  after_events due = record t.history { events = t.history.events ++ events due }

  abbrev ticked : Bool → RunValue
  ticked true = with_board_and_hart c.run c.run.board hart (tick_of h)
  ticked false = c.run

  -- told the tick
  abbrev mid : CoreValue K
  mid = record c { run = ticked true }

  abbrev tick : History
  tick = given t.history (Tick hart)

  tick-entries : entries_of c.run (Tick hart) ≡ []
  tick-entries = ap (λ o. (without_action (after_tick (core_of_run c.run) hart o)).core.log) there

  tick-log : (log : List Probe) → log ≡ log ++ entries_of c.run (Tick hart)
  tick-log log = sym (ap (λ (es : List Probe). log ++ es) tick-entries ∙ append-nil log)

  once : IsCoreOf tick mid
  once =
      told-more t.history (Tick hart) c mid is (after-tick-of c.run hart h there (tick_of h) refl) refl
      (λ log stood. subst (StandFor c.log.tally) (tick-log log) stood)

  both-events : (t.history.events ++ Tick hart ∷ []) ++ Go hart ∷ [] ≡ t.history.events ++ Tick hart ∷ Go hart ∷ []
  both-events = append_assoc t.history.events (Tick hart ∷ []) (Go hart ∷ [])

  abbrev with_events : List Event → History
  with_events es = record t.history { events = es }

  -- the entries of the step, by whether its tick is due
  entries-by : (due : Bool) → (core_of t.history).log ++ entries_of (ticked due) (Go hart) ≡ (core_of (after_events due)).log
  entries-by true =
      ap (λ (log : List Probe). log ++ entries_of mid.run (Go hart)) (tick-log (core_of t.history).log ∙ entries-told t.history (Tick hart) c mid is)
      ∙ entries-told tick (Go hart) mid mid once
      ∙ ap (λ (es : List Event). (core_of (with_events es)).log) both-events
  entries-by false = entries-told t.history (Go hart) c c is

  -- and its action
  action-by : (due : Bool) → (event_on (ticked due) (Go hart)).action ≡ (result_of words (core_of t.history) (events due)).action
  unfolding result_of
  action-by true =
      action-told tick (Go hart) mid mid once
      ∙ ap (λ (x : CoreState). (event_result words x (Go hart)).action) (next-core t.history (Tick hart) c mid is)
  action-by false = action-told t.history (Go hart) c c is

  ticked-is : (due : Bool) → is_tick_due plan progress h ≡ due → ticked_run plan progress hart c.run ≡ ticked due
  ticked-is true e = ap (with_due plan progress hart c.run) there ∙ rw e refl
  ticked-is false e =
      ap (with_due plan progress hart c.run) there
      ∙ rw e (ap (λ (hs : List HartState). record c.run { harts = hs }) (set-same c.run.harts hart h there))

  abbrev due : Bool
  due = is_tick_due plan progress h

  -- the step in the core that was told
  abbrev step_events : Option HartState → List Event
  step_events o = events_of_step plan progress hart o

  told-hart : slice_get (core_of t.history).harts hart ≡ Some h
  told-hart = ap (λ (hs : List HartState). slice_get hs hart) (sym is.harts) ∙ there

  events-so : (next_steps_of t hart 1).events ≡ events due
  events-so = (one-step words plan progress hart (core_of t.history)).events ∙ ap step_events told-hart

  core-so : core_of (after_events due) ≡ (next_steps_of t hart 1).core
  core-so = ap (λ (es : List Event). core_of (with_events (t.history.events ++ es))) (sym events-so) ∙ core-told t hart 1

  pub entries-step : entries_of (ticked_run plan progress hart c.run) (Go hart) ≡ next_entries_of t hart 1
  entries-step =
      let log = (core_of t.history).log in
      ap (λ (r : RunValue). entries_of r (Go hart)) (ticked-is due refl)
      ∙ sym (drop-append_seam log (entries_of (ticked due) (Go hart)))
      ∙ ap (drop (length log)) (entries-by due ∙ ap (λ (x : CoreState). x.log) core-so)

  pub action-step : (event_on (ticked_run plan progress hart c.run) (Go hart)).action ≡ (next_steps_of t hart 1).action
  action-step =
      ap (λ (r : RunValue). (event_on r (Go hart)).action) (ticked-is due refl)
      ∙ action-by due
      ∙ ap (λ o. (result_of words (core_of t.history) (step_events o)).action) (sym told-hart)
      ∙ sym (one-step words plan progress hart (core_of t.history)).action

  module _ (after : CoreValue K) (tasks : after.tasks ≡ c.tasks) where
    by-due : (b : Bool) → IsAfterEvent (ticked b) after.run (Go hart)
        → ((log : List Probe) → StandFor c.log.tally log → StandFor after.log.tally (log ++ entries_of (ticked b) (Go hart)))
        → IsCoreOf (after_events b) after
    by-due true run logs =
        let P : List Event → Type 0 = λ es. IsCoreOf (with_events es) after in
        subst P both-events (told-more tick (Go hart) mid after once run tasks logs)
    by-due false run logs = told-more t.history (Go hart) c after is run tasks logs

    pub told-step : IsAfterEvent (ticked_run plan progress hart c.run) after.run (Go hart)
        → ((log : List Probe) → StandFor c.log.tally log → StandFor after.log.tally (log ++ entries_of (ticked_run plan progress hart c.run) (Go hart)))
        → IsCoreOf (stepped t hart).history after
    told-step run logs =
        let same = ticked-is due refl in
        let A : RunValue → Type 0 = λ r. IsAfterEvent r after.run (Go hart) in
        let L : RunValue → Type 0 = λ r. (log : List Probe) → StandFor c.log.tally log → StandFor after.log.tally (log ++ entries_of r (Go hart)) in
        let P : List Event → Type 0 = λ es. IsCoreOf (with_events (t.history.events ++ es)) after in
        subst P (sym events-so) (by-due due (subst A same run) (subst L same logs))
