-- Runs under the plans of harts, step by step (this project's own): between the entries of an order, and inside them.
use Rattle.std.specs.Prelude.{◌≡◌, ℕ, ◌+◌, ◌≤◌, ⊤, List, [], ◌∷◌, length, get_or, Some}
use Rattle.core_model.specs.declared.action.Action.{Action}
use Rattle.core_model.specs.declared.plan.Plan.{Plan}
use Rattle.core_model.specs.Orders.{CoarseState, StepsToAction, boot_pace, plan_at, max_steps, steps_to_action, after_steps, IsLegalEntry}

-- The next steps of a hart, up to and with its queue action, and no more than so many. An entry of an order is those of at most `max_steps`.
abbrev pub next_steps : List ℕ → List Plan → CoarseState → ℕ → ℕ → StepsToAction
next_steps code plans co hart most = steps_to_action code (plan_at plans hart) (get_or co.paces hart boot_pace) hart most co.core

-- one step of a hart, with the tick before it where it is due
abbrev pub after_one : List ℕ → List Plan → CoarseState → ℕ → CoarseState
after_one code plans co hart = after_steps co hart (next_steps code plans co hart 1)

-- a step of each of these harts, the first one first
unfoldable pub stepped_from : List ℕ → List Plan → CoarseState → List ℕ → CoarseState
stepped_from code plans co [] = co
stepped_from code plans co (hart ∷ harts) = stepped_from code plans (after_one code plans co hart) harts

-- each of a hart that there is then, and that has not found nothing
unfoldable pub AreLegalSteps : List ℕ → List Plan → CoarseState → List ℕ → Type 0
AreLegalSteps code plans co [] = ⊤
AreLegalSteps code plans co (hart ∷ harts) = IsLegalEntry co hart × AreLegalSteps code plans (after_one code plans co hart) harts

-- A hart comes to its queue action, by few entries of the log.
pub record ComesOn (code : List ℕ) (plans : List Plan) (co : CoarseState) (hart : ℕ) : Type 0 where
  pub action : Action
  pub acts : (next_steps code plans co hart max_steps).action ≡ Some action
  pub few : length (next_steps code plans co hart max_steps).core.log ≤ length co.core.log + 30000
