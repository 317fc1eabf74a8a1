-- Which harts come to a queue action by their own steps (this project's own).
use Rattle.std.specs.Prelude.{◌≡◌, ℕ, ◌+◌, ◌≤◌, List, length, Some}
use Rattle.hart_model.specs.HartState.{HartState}
use Rattle.core_model.specs.declared.plan.Plan.{Plan}
use Rattle.core_model.specs.Orders.{HartPace, max_steps}
use Rattle.order_laws.specs.OwnSteps.{AtAction, own_steps}
use Rattle.timer_plan.specs.Pace.{PaceState}
use Rattle.hart_advance.specs.Pacing.{IsPaceOf}

-- The hart of a number, this far in its plan, for which the pace stands, comes to this queue action by its own steps.
pub record ReachesAction (code : List ℕ) (plan : Plan) (progress : HartPace) (number : ℕ) (h : HartState) (pace : PaceState)
    (a : AtAction) : Type 0 where
  pub is_pace : IsPaceOf plan progress h pace
  pub own : own_steps code plan progress number max_steps h ≡ Some a

-- By some plan a hart comes to some action, and there is room for its entries until then and 6 more.
pub record CanAdvance (code : List ℕ) (h : HartState) (pace : PaceState) (room : ℕ) : Type 0 where
  pub plan : Plan
  pub progress : HartPace
  pub number : ℕ
  pub action : AtAction
  pub reaches : ReachesAction code plan progress number h pace action
  pub fits : length action.probes + 6 ≤ room
