-- One step of a hart under its plan: its events, what they leave, and what further steps are after it.
use Rattle.std.proofs.Common.{◌≡◌, ℕ, zero, suc, List, [], ◌∷◌, ◌++◌, get_or, set, slice_get, Option, Some, None, refl, sym, ap, ◌∙◌, append-nil}
use Rattle.std.proofs.lemmas.List.{set-set}
use Rattle.core_model.specs.declared.action.Action.{Action}
use Rattle.core_model.specs.declared.event.Event.{Event}
use Rattle.core_model.specs.declared.plan.Plan.{Plan}
use Rattle.core_model.specs.Core.{CoreState, CoreAndAction, core_from}
use Rattle.core_model.specs.Orders.{HartPace, CoarseState, StepsToAction, boot_pace, plan_at, events_of_step, result_of, then_steps, unless_action, steps_to_action, count_on, pace_after, after_steps}
use Rattle.order_laws.specs.SteppedRuns.{next_steps, after_one}
use Rattle.order_laws.proofs.AsEvents.{steps-core}

-- setting an item to what it is leaves it, also where there is none
set-or : {X : Type 0} (xs : List X) (i : ℕ) (d : X) → get_or (set xs i (get_or xs i d)) i d ≡ get_or xs i d
set-or [] i d = refl
set-or (x ∷ xs) zero d = refl
set-or (x ∷ xs) (suc i) d = set-or xs i d

-- IN A CORE
module _ (code : List ℕ) (plan : Plan) (pace : HartPace) (hart : ℕ) (c : CoreState) where
  abbrev pub step_events : List Event
  step_events = events_of_step plan pace hart (slice_get c.harts hart)

  abbrev pub step_result : CoreAndAction
  step_result = result_of code c step_events

  abbrev pub Further : ℕ → CoreState → StepsToAction
  Further more d = steps_to_action code plan pace hart more d

  more-steps : (more : ℕ) → Further (suc more) c ≡ unless_action (Further more) step_events step_result.core step_result.action
  unfolding steps_to_action
  more-steps more = refl

  -- A step that makes an action is the last one; after any other there are further ones.
  pub last-step : (more : ℕ) (action : Action) → step_result.action ≡ Some action
      → Further (suc more) c ≡ record { events = step_events; core = step_result.core; action = Some action }
  last-step more action made = more-steps more ∙ ap (unless_action (Further more) step_events step_result.core) made

  pub further-steps : (more : ℕ) → step_result.action ≡ None → Further (suc more) c ≡ then_steps step_events (Further more step_result.core)
  further-steps more none = more-steps more ∙ ap (unless_action (Further more) step_events step_result.core) none

  -- These steps are the one step.
  pub record IsOneStep (steps : StepsToAction) : Type 0 where
    pub events : steps.events ≡ step_events
    pub core : steps.core ≡ step_result.core
    pub action : steps.action ≡ step_result.action

  none-left : (d : CoreState) → Further 0 d ≡ record { events = []; core = d; action = None }
  unfolding steps_to_action
  none-left d = refl

  by-action : (o : Option Action) → step_result.action ≡ o → IsOneStep (unless_action (Further 0) step_events step_result.core o)
  by-action None is = record {
    events = ap (λ (s : StepsToAction). step_events ++ s.events) (none-left step_result.core) ∙ append-nil step_events;
    core = ap (λ (s : StepsToAction). s.core) (none-left step_result.core);
    action = ap (λ (s : StepsToAction). s.action) (none-left step_result.core) ∙ sym is;
  }
  by-action (Some action) is = record { events = refl; core = refl; action = sym is }

  pub one-step : IsOneStep (Further 1 c)
  unfolding steps_to_action
  one-step = by-action step_result.action refl

-- IN A COARSE RUN
module _ (code : List ℕ) (plans : List Plan) (co : CoarseState) (hart : ℕ) where
  abbrev plan : Plan
  plan = plan_at plans hart

  abbrev pace : HartPace
  pace = get_or co.paces hart boot_pace

  abbrev one : StepsToAction
  one = next_steps code plans co hart 1

  abbrev after : CoarseState
  after = after_one code plans co hart

  is-one : IsOneStep code plan pace hart co.core one
  is-one = one-step code plan pace hart co.core

  -- The core after one step is the one that the step's events leave.
  pub after-one-core : after.core ≡ core_from code co.core one.events
  after-one-core = steps-core code plan pace hart 1 co.core

  -- Where the step makes the action, all steps are this one.
  pub one-acts : (more : ℕ) (action : Action) → one.action ≡ Some action → next_steps code plans co hart (suc more) ≡ one
  one-acts more action acts =
      let made = sym is-one.action ∙ acts in
      last-step code plan pace hart co.core more action made ∙ sym (last-step code plan pace hart co.core 0 action made)

  -- Where it makes none, the hart is in its plan where it was,
  module _ (none : one.action ≡ None) where
    pub paces-then : after.paces ≡ set co.paces hart pace
    paces-then = ap (λ o. set co.paces hart (pace_after pace (count_on (slice_get one.core.harts hart)) o)) none

    pub pace-then : get_or after.paces hart boot_pace ≡ pace
    pace-then = ap (λ ps. get_or ps hart boot_pace) paces-then ∙ set-or co.paces hart boot_pace

    -- and the further steps are those that come next then;
    pub one-goes-on : (more : ℕ) → next_steps code plans co hart (suc more) ≡ then_steps one.events (next_steps code plans after hart more)
    one-goes-on more =
        let rest : next_steps code plans after hart more ≡ steps_to_action code plan pace hart more (step_result code plan pace hart co.core).core =
        ap (λ (p : HartPace). steps_to_action code plan p hart more after.core) pace-then
        ∙ ap (steps_to_action code plan pace hart more) is-one.core in
        further-steps code plan pace hart co.core more (sym is-one.action ∙ none)
        ∙ ap (λ es. then_steps es (steps_to_action code plan pace hart more (step_result code plan pace hart co.core).core)) (sym is-one.events)
        ∙ ap (then_steps one.events) (sym rest)

    -- so they leave the same.
    pub after-goes-on : (more : ℕ)
        → after_steps co hart (next_steps code plans co hart (suc more)) ≡ after_steps after hart (next_steps code plans after hart more)
    after-goes-on more =
        let S = next_steps code plans after hart more in
        let next : HartPace → HartPace = λ p. pace_after p (count_on (slice_get S.core.harts hart)) S.action in
        let told : List HartPace → CoarseState = λ ps. record { core = S.core; paces = ps } in
        ap (after_steps co hart) (one-goes-on more)
        ∙ ap told (sym (set-set co.paces hart pace (next pace)) ∙ ap (λ ps. set ps hart (next pace)) (sym paces-then))
        ∙ ap (λ (p : HartPace). told (set after.paces hart (next p))) (sym pace-then)
