-- A hart makes few entries of the log by its own steps, and an entry of an order has few steps.
use Rattle.std.proofs.Common.{◌≡◌, ℕ, zero, suc, ◌+◌, ◌*◌, ◌≤◌, Bool, true, false, List, [], ◌∷◌, ◌++◌, length, slice_get, Option, Some, None, refl, subst, arith, length-append, if◌then◌else◌}
use Rattle.hart_model.specs.declared.probe.Probe.{Probe}
use Rattle.hart_model.specs.HartState.{HartState}
use Rattle.hart_model.specs.StepResult.{StepResult, Steps, Wants, Wedged}
use Rattle.hart_model.specs.HartStep.{hart_step}
use Rattle.core_model.specs.declared.action.Action.{Action}
use Rattle.core_model.specs.declared.event.Event.{Event}
use Rattle.core_model.specs.declared.event.Event.TheVariants.{Go, Tick}
use Rattle.core_model.specs.declared.plan.Plan.{Plan}
use Rattle.core_model.specs.Core.{CoreState}
use Rattle.core_model.specs.Routines.{ticked_if}
use Rattle.core_model.specs.Orders.{HartPace, StepsToAction, is_tick_due, events_of_step, result_of, unless_action, steps_to_action}
use Rattle.core_model.proofs.Lists.{count-append}
use Rattle.core_invariant.proofs.FewEntries.{IsFewStep, hart_step_few}
use Rattle.order_laws.specs.CoarseRuns.{is_go, step_count}
use Rattle.order_laws.specs.OwnSteps.{AtAction, after_own, own_by, own_steps}

module _ (code : List ℕ) (plan : Plan) (pace : HartPace) (number : ℕ) where
  abbrev Own : ℕ → HartState → Option AtAction
  Own steps h = own_steps code plan pace number steps h

  -- At most six for each step, and none for the step that comes to the action.
  pub own-few : (steps : ℕ) (h : HartState) (a : AtAction) → Own steps h ≡ Some a → length a.probes + 6 ≤ 6 * steps
  unfolding own_steps
  own-few zero h a e = absurd (cc e)
  own-few (suc steps) h a e =
      let f = ticked_if (is_tick_due plan pace h) h in
      by-step (events_of_step plan pace number (Some h)) f (hart_step code f) (hart_step_few code f) e (λ g b own. own-few steps g b own)
    where
      by-step : (events : List Event) (f : HartState) (step : StepResult) → IsFewStep step → own_by (Own steps) events f step ≡ Some a
          → ((g : HartState) (b : AtAction) → Own steps g ≡ Some b → length b.probes + 6 ≤ 6 * steps) → length a.probes + 6 ≤ 6 * suc steps
      by-step events f (Steps g probes did) few e further = by-rest (Own steps g) refl e
        where
          by-rest : (o : Option AtAction) → Own steps g ≡ o → after_own events probes o ≡ Some a → length a.probes + 6 ≤ 6 * suc steps
          by-rest None own e = absurd (cc e)
          by-rest (Some b) own e =
              let same : record { call = b.call; hart = b.hart; probes = probes ++ b.probes; events = events ++ b.events } ≡ a = cc e in
              let both = length-append probes b.probes in
              let rest = further g b own in
              let sum : length (probes ++ b.probes) + 6 ≤ 6 * suc steps = omega (arith, both, rest, few) in
              subst (λ (x : AtAction). length x.probes + 6 ≤ 6 * suc steps) same sum
      by-step events f (Wants call early_writes rd next) few e further =
          let same : record { call = call; hart = f; probes = []; events = events } ≡ a = cc e in
          let none : length {A = Probe} [] + 6 ≤ 6 * suc steps = omega arith in
          subst (λ (x : AtAction). length x.probes + 6 ≤ 6 * suc steps) same none
      by-step events f Wedged few e further = absurd (cc e)

-- a step's events have one step
one-step : (hart : ℕ) (due : Bool) → step_count (if due then Tick hart ∷ Go hart ∷ [] else Go hart ∷ []) ≡ 1
one-step hart true = refl
one-step hart false = refl

step-one : (plan : Plan) (pace : HartPace) (hart : ℕ) (o : Option HartState) → step_count (events_of_step plan pace hart o) ≡ 1
step-one plan pace hart None = refl
step-one plan pace hart (Some h) = one-step hart (is_tick_due plan pace h)

unless-few : (further : CoreState → StepsToAction) (more : ℕ) → ((d : CoreState) → step_count (further d).events ≤ more) → (events : List Event)
    → step_count events ≡ 1
    → (d : CoreState) (action : Option Action) → step_count (unless_action further events d action).events ≤ suc more
unless-few further more few events one d None =
    let both = count-append is_go events (further d).events in
    let rest = few d in
    omega (arith, both, rest, one)
unless-few further more few events one d (Some action) = omega (arith, one)

-- No more than the fuel of the definition.
pub steps-few : (code : List ℕ) (plan : Plan) (pace : HartPace) (hart steps : ℕ) (c : CoreState)
    → step_count (steps_to_action code plan pace hart steps c).events ≤ steps
unfolding steps_to_action
steps-few code plan pace hart zero c = omega arith
steps-few code plan pace hart (suc more) c =
    let events = events_of_step plan pace hart (slice_get c.harts hart) in
    let r = result_of code c events in
    unless-few (steps_to_action code plan pace hart more) more (λ d. steps-few code plan pace hart more d) events
    (step-one plan pace hart (slice_get c.harts hart)) r.core r.action
