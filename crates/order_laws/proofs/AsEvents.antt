-- A coarse run is the run of its events.
use Rattle.std.proofs.Common.{◌≡◌, ℕ, zero, suc, List, [], ◌∷◌, ◌++◌, get_or, slice_get, Option, Some, None, refl, sym, ap, ◌∙◌}
use Rattle.core_model.specs.declared.action.Action.{Action}
use Rattle.core_model.specs.declared.event.Event.{Event}
use Rattle.core_model.specs.declared.plan.Plan.{Plan}
use Rattle.core_model.specs.Core.{CoreState, event_result, core_from}
use Rattle.core_model.specs.Orders.{HartPace, CoarseState, StepsToAction, boot_pace, boot_coarse, plan_at, max_steps, events_of_step, result_of, unless_action, steps_to_action, steps_of_entry, after_entry, fine_from}
use Rattle.core_invariant.proofs.Events.{core-append}
use Rattle.order_laws.specs.CoarseRuns.{coarse_from}
use Rattle.order_laws.specs.Laws.{CoarseStatesAreCores}

-- the core that events leave, with or without the action of the last one
pub result-core : (code : List ℕ) (c : CoreState) (events : List Event) → (result_of code c events).core ≡ core_from code c events
unfolding result_of core_from
result-core code c [] = refl
result-core code c (event ∷ []) = refl
result-core code c (event ∷ other ∷ events) = result-core code (event_result code c event).core (other ∷ events)

module _ (code : List ℕ) where
  -- after a step, where further ones leave what their events leave
  unless-core : (further : CoreState → StepsToAction) → ((d : CoreState) → (further d).core ≡ core_from code d (further d).events)
      → (c : CoreState) (events : List Event) (d : CoreState) (action : Option Action) → d ≡ core_from code c events
      → (unless_action further events d action).core ≡ core_from code c (unless_action further events d action).events
  unless-core further so c events d None is =
      so d ∙ ap (λ (x : CoreState). core_from code x (further d).events) is ∙ sym (core-append code c events (further d).events)
  unless-core further so c events d (Some action) is = is

  pub steps-core : (plan : Plan) (pace : HartPace) (hart steps : ℕ) (c : CoreState)
      → (steps_to_action code plan pace hart steps c).core ≡ core_from code c (steps_to_action code plan pace hart steps c).events
  unfolding steps_to_action core_from
  steps-core plan pace hart zero c = refl
  steps-core plan pace hart (suc more) c =
      let events = events_of_step plan pace hart (slice_get c.harts hart) in
      let r = result_of code c events in
      unless-core (steps_to_action code plan pace hart more) (λ d. steps-core plan pace hart more d) c events r.core r.action
      (result-core code c events)

  -- the core along an order
  pub coarse-core : (plans : List Plan) (co : CoarseState) (order : List ℕ)
      → (coarse_from code plans co order).core ≡ core_from code co.core (fine_from code plans co order)
  unfolding coarse_from fine_from core_from
  coarse-core plans co [] = refl
  coarse-core plans co (hart ∷ order) =
      let steps = steps_of_entry code plans co hart in
      let next = after_entry code plans co hart in
      let more = fine_from code plans next order in
      coarse-core plans next order
      ∙ ap (λ (x : CoreState). core_from code x more) (one-entry co hart)
      ∙ sym (core-append code co.core steps.events more)
    where
      one-entry : (at : CoarseState) (i : ℕ) → (after_entry code plans at i).core ≡ core_from code at.core (steps_of_entry code plans at i).events
      one-entry at i = steps-core (plan_at plans i) (get_or at.paces i boot_pace) i max_steps at.core

pub coarse-states : CoarseStatesAreCores
coarse-states loaded kernel order = coarse-core kernel.words loaded.plans (boot_coarse loaded kernel) order

-- an order and a further one
pub coarse-append : (code : List ℕ) (plans : List Plan) (co : CoarseState) (seen rest : List ℕ)
    → coarse_from code plans co (seen ++ rest) ≡ coarse_from code plans (coarse_from code plans co seen) rest
unfolding coarse_from
coarse-append code plans co [] rest = refl
coarse-append code plans co (hart ∷ seen) rest = coarse-append code plans (after_entry code plans co hart) seen rest
