-- An entry step by step: its hart's next step, and what is left of the entry after it.
use Rattle.std.proofs.Common.{◌≡◌, ℕ, zero, suc, List, [], ◌∷◌, ◌++◌, length, drop, get_or, set, slice_get, Option, Some, None, sym, ap, ◌∙◌, subst, append_assoc, append-nil}
use Rattle.std.proofs.lemmas.List.{set-set}
use Rattle.std.proofs.Math.Seq.{drop-append_seam}
use Rattle.hart_model.specs.declared.probe.Probe.{Probe}
use Rattle.core_model.specs.declared.action.Action.{Action}
use Rattle.core_model.specs.declared.event.Event.{Event}
use Rattle.core_model.specs.declared.plan.Plan.{Plan}
use Rattle.core_model.specs.Core.{CoreState, CoreAndAction, event_result}
use Rattle.core_model.specs.Orders.{HartPace, CoarseState, StepsToAction, boot_pace, plan_at, result_of, then_steps, unless_action, steps_to_action, count_on, pace_after, IsLegalEntry}
use Rattle.core_invariant.proofs.Events.{core-append}
use Rattle.order_laws.specs.SteppedRuns.{next_steps, after_one}
use Rattle.order_laws.proofs.AsEvents.{steps-core}
use Rattle.order_laws.proofs.OneStep.{step_events, step_result, one-step, one-acts, one-goes-on, paces-then, pace-then}
use Rattle.kernel_core.specs.History.{core_of}
use Rattle.kernel_core.specs.PacedHistory.{PacedHistory, start_of, coarse_of, next_steps_of, next_entries_of, with_steps, stepped, IsPacedHistory}
use Rattle.kernel_core.specs.Laws.{EntriesAreSteps, ToldIsStepped}
use Rattle.kernel_core.proofs.HistoryMore.{event-same}
use Rattle.kernel_core.proofs.SteppedMore.{legal-more, stepped-more}

-- a list that begins with another
abbrev Begins : List Probe → List Probe → Type 0
Begins log grown = grown ≡ log ++ drop (length log) grown

begins-with : (log more grown : List Probe) → grown ≡ log ++ more → Begins log grown
begins-with log more grown is =
    is ∙ ap (λ (l : List Probe). log ++ l) (sym (drop-append_seam log more) ∙ ap (drop (length log)) (sym is))

begins-then : (a b c : List Probe) → Begins a b → Begins b c → Begins a c
begins-then a b c first second =
    begins-with a (drop (length a) b ++ drop (length b) c) c
    (second ∙ ap (λ (l : List Probe). l ++ drop (length b) c) first ∙ append_assoc a (drop (length a) b) (drop (length b) c))

-- STEPS ONLY ADD TO THE LOG
module _ (code : List ℕ) where
  event-adds : (c : CoreState) (event : Event) → Begins c.log (event_result code c event).core.log
  event-adds c event = begins-with c.log _ _ (event-same code c event).log_is

  events-add : (c : CoreState) (events : List Event) → Begins c.log (result_of code c events).core.log
  unfolding result_of
  events-add c [] = begins-with c.log [] c.log (sym (append-nil c.log))
  events-add c (event ∷ []) = event-adds c event
  events-add c (event ∷ other ∷ events) =
      begins-then c.log (event_result code c event).core.log _ (event-adds c event) (events-add (event_result code c event).core (other ∷ events))

  unless-add : (c : CoreState) (further : CoreState → StepsToAction) → ((d : CoreState) → Begins d.log (further d).core.log) → (events : List Event)
      → (r : CoreState) (o : Option Action) → Begins c.log r.log → Begins c.log (unless_action further events r o).core.log
  unless-add c further adds events r None first = begins-then c.log r.log (further r).core.log first (adds r)
  unless-add c further adds events r (Some action) first = first

  pub steps-add : (plan : Plan) (progress : HartPace) (hart most : ℕ) (c : CoreState)
      → Begins c.log (steps_to_action code plan progress hart most c).core.log
  unfolding steps_to_action
  steps-add plan progress hart zero c = begins-with c.log [] c.log (sym (append-nil c.log))
  steps-add plan progress hart (suc more) c =
      let r = step_result code plan progress hart c in
      unless-add c (steps_to_action code plan progress hart more) (λ d. steps-add plan progress hart more d)
      (step_events code plan progress hart c) r.core r.action (events-add c (step_events code plan progress hart c))

module _ (t : PacedHistory) (hart : ℕ) where
  abbrev code : List ℕ
  code = t.history.kernel.code.words

  abbrev plan : Plan
  plan = plan_at t.history.loaded.plans hart

  abbrev progress : HartPace
  progress = get_or t.paces hart boot_pace

  abbrev c : CoreState
  c = core_of t.history

  abbrev r : CoreAndAction
  r = step_result code plan progress hart c

  -- the core that was told steps
  pub core-told : (most : ℕ) → core_of (with_steps t hart (next_steps_of t hart most)).history ≡ (next_steps_of t hart most).core
  core-told most =
      core-append code t.history.start t.history.events (next_steps_of t hart most).events
      ∙ sym (steps-core code plan progress hart most c)

  pub log-told : (most : ℕ) → (next_steps_of t hart most).core.log ≡ (core_of t.history).log ++ next_entries_of t hart most
  log-told most = steps-add code plan progress hart most c

  -- as a coarse run it is that with one step more
  pub coarse-stepped : coarse_of (stepped t hart) ≡ after_one code t.history.loaded.plans (coarse_of t) hart
  coarse-stepped = ap (λ (x : CoreState). record { core = x; paces = (stepped t hart).paces }) (core-told 1)

  pub steps-told : IsPacedHistory t → IsLegalEntry (coarse_of t) hart → IsPacedHistory (stepped t hart)
  steps-told is legal =
      let plans = t.history.loaded.plans in
      let L : CoarseState → Type 0 = λ co. IsLegalEntry co hart in
      record {
        begins = is.begins;
        steps = is.steps ++ hart ∷ [];
        legal = legal-more code plans (start_of t) is.steps hart is.legal (subst L is.is legal);
        is = coarse-stepped ∙ ap (λ co. after_one code plans co hart) is.is ∙ sym (stepped-more code plans (start_of t) is.steps hart);
      }

  pub last-step : (more : ℕ) (action : Action) → (next_steps_of t hart 1).action ≡ Some action
      → next_steps_of t hart (suc more) ≡ next_steps_of t hart 1
  last-step = one-acts code t.history.loaded.plans (coarse_of t) hart

  -- the core after one step
  pub core-then : core_of (stepped t hart).history ≡ r.core
  core-then = core-told 1 ∙ (one-step code plan progress hart c).core

  module _ (none : (next_steps_of t hart 1).action ≡ None) where
    -- what is left is what comes next after the step
    pub further-steps : (more : ℕ)
        → next_steps_of t hart (suc more) ≡ then_steps (next_steps_of t hart 1).events (next_steps_of (stepped t hart) hart more)
    further-steps more =
        let plans = t.history.loaded.plans in
        one-goes-on code plans (coarse_of t) hart none more
        ∙ ap (λ co. then_steps (next_steps_of t hart 1).events (next_steps code plans co hart more)) (sym coarse-stepped)

    abbrev told : List Event → List HartPace → PacedHistory
    told es ps = record t { history = record t.history { events = es }; paces = ps }

    further-by : (S : StepsToAction) → with_steps t hart (then_steps (next_steps_of t hart 1).events S) ≡ with_steps (stepped t hart) hart S
    further-by S =
        let counted = count_on (slice_get S.core.harts hart) in
        let next : HartPace = pace_after progress counted S.action in
        let es = sym (append_assoc t.history.events (next_steps_of t hart 1).events S.events) in
        let ps : set t.paces hart next ≡ set (stepped t hart).paces hart next =
        sym (set-set t.paces hart progress next) ∙ ap (λ (l : List HartPace). set l hart next) (sym (paces-then code t.history.loaded.plans (coarse_of t) hart none)) in
        ap (λ l. told l (set t.paces hart next)) es
        ∙ ap (told ((stepped t hart).history.events ++ S.events)) ps
        ∙ ap (λ (p : HartPace). told ((stepped t hart).history.events ++ S.events) (set (stepped t hart).paces hart (pace_after p counted S.action)))
        (sym (pace-then code t.history.loaded.plans (coarse_of t) hart none))

pub entries-are-steps : EntriesAreSteps
entries-are-steps = record {
  last = λ t hart more action e. ap (with_steps t hart) (last-step t hart more action e);
  further = λ t hart more e.
      ap (with_steps t hart) (further-steps t hart e more) ∙ further-by t hart e (next_steps_of (stepped t hart) hart more);
}

pub told-is-stepped : ToldIsStepped
told-is-stepped = record { core = core-told; log = log-told }
