-- Where the steps of a hart lead, whatever ticks come between them (this project's own).
use Rattle.std.specs.Prelude.{◌≡◌, ℕ, zero, suc, ◌⊎◌, Bool, List, All}
use Rattle.isa_model.specs.declared.task.Task.{Task}
use Rattle.hart_model.specs.declared.calls.Did.{Did}
use Rattle.hart_model.specs.declared.probe.Probe.{Probe}
use Rattle.hart_model.specs.HartState.{HartState}
use Rattle.hart_model.specs.StepResult.{StepResult, Steps}
use Rattle.hart_model.specs.HartStep.{hart_step}
use Rattle.core_model.specs.Explained.{IsExplained}
use Rattle.core_model.specs.Soundness.{IsHartSound}
use Rattle.core_model.specs.Routines.{ticked_if, HoldsSame}

-- A step goes on, with explained entries; the hart holds the same, and stands there.
pub record GoesOnTo (tasks : List Task) (h : HartState) (There : HartState → Type 0) (step : StepResult) : Type 0 where
  pub after : HartState
  pub probes : List Probe
  pub did : Did
  pub step_is : step ≡ Steps after probes did
  pub explained : All (IsExplained tasks) probes
  pub holds : HoldsSame h.held after.held
  pub there : There after

-- No more than so many steps lead a hart there, with or without a tick before each of them. Until then the hart is sound, each step
-- goes on, and its entries are explained.
abbrev pub Leads : List Task → List ℕ → ℕ → ℕ → (HartState → Type 0) → HartState → Type 0
Leads tasks code number zero There h = There h
Leads tasks code number (suc more) There h =
    There h ⊎ (IsHartSound tasks number h × ((ticked : Bool) → GoesOnTo tasks h (Leads tasks code number more There) (hart_step code (ticked_if ticked h))))
