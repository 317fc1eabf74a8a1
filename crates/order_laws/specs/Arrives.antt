-- Where a hart gets to in machine mode when no tick comes (this project's own).
use Rattle.std.specs.Prelude.{◌≡◌, ℕ, zero, suc, ◌⊎◌, false, List, Some}
use Rattle.hart_model.specs.declared.calls.Did.{Did}
use Rattle.hart_model.specs.declared.calls.QueueCall.{QueueCall}
use Rattle.hart_model.specs.declared.probe.Probe.{Probe}
use Rattle.hart_model.specs.declared.tag.Mode.TheVariants.{Machine}
use Rattle.hart_model.specs.HartState.{HartState}
use Rattle.hart_model.specs.StepResult.{StepResult, Steps}
use Rattle.hart_model.specs.HartStep.{hart_step}
use Rattle.core_model.specs.declared.plan.Plan.{Plan}
use Rattle.core_model.specs.Routines.{HoldsSame}
use Rattle.core_model.specs.Orders.{HartPace}
use Rattle.order_laws.specs.OwnSteps.{AtAction, own_steps}

-- A step goes on, and the hart stands there.
pub record StepsTo (There : HartState → Type 0) (step : StepResult) : Type 0 where
  pub after : HartState
  pub probes : List Probe
  pub did : Did
  pub step_is : step ≡ Steps after probes did
  pub there : There after

-- No more than so many steps lead a hart there, with no tick before any of them; until then it is in machine mode.
abbrev pub Arrives : List ℕ → ℕ → (HartState → Type 0) → HartState → Type 0
Arrives code zero There h = There h
Arrives code (suc more) There h = There h ⊎ ((h.csrs.mode ≡ Machine) × StepsTo (Arrives code more There) (hart_step code h))

-- By so many of its own steps a hart comes to a queue action, where this is so of it.
pub record Reaches (code : List ℕ) (plan : Plan) (pace : HartPace) (number steps : ℕ) (There : QueueCall → HartState → Type 0)
    (h : HartState) : Type 0 where
  pub action : AtAction
  pub own : own_steps code plan pace number steps h ≡ Some action
  pub there : There action.call action.hart

-- A hart after another on such a way: it holds the same task at the same count, and no timer is pending where none was.
pub record IsAfter (before after : HartState) : Type 0 where
  pub holds : HoldsSame before.held after.held
  pub calm : before.csrs.is_timer_pending ≡ false → after.csrs.is_timer_pending ≡ false
