-- What a step of a hart in user mode comes to (this project's own).
use Rattle.std.specs.Prelude.{◌≡◌, ℕ, ◌⊎◌, List, All, Some}
use Rattle.isa_model.specs.declared.task.Task.{Task}
use Rattle.hart_model.specs.declared.calls.Did.{Did}
use Rattle.hart_model.specs.declared.calls.Did.TheVariants.{Trapped}
use Rattle.hart_model.specs.declared.probe.Probe.{Probe}
use Rattle.hart_model.specs.Context.{ContextState}
use Rattle.hart_model.specs.HartState.{HartState}
use Rattle.hart_model.specs.StepResult.{Steps}
use Rattle.hart_model.specs.HartStep.{hart_step}
use Rattle.core_model.specs.Explained.{IsExplained}
use Rattle.core_model.specs.Routines.{IsUserState}
use Rattle.core_invariant.specs.CutPoints.{IsAtTrap, IsTimerTrap, IsFuelTrap, IsFaultTrap, IsCallTrap}

-- The task goes on in user mode, or the hart has trapped: by the timer, by used fuel, by a fault or by a call.
abbrev pub IsUserOutcome : List Task → ℕ → HartState → ContextState → Type 0
IsUserOutcome tasks number g d =
    IsUserState tasks number g d
    ⊎ (IsTimerTrap tasks number g d
    ⊎ (IsFuelTrap tasks number g d
    ⊎ (((n : ℕ) × (cause : ℕ) × IsFaultTrap tasks number n cause g d)
    ⊎ ((n : ℕ) × IsCallTrap tasks number n g d))))

-- The step goes on, with explained entries; the hart holds the same task in the same slot. Where it trapped, the task had executed as
-- many instructions before as it had then.
pub record UserStepLeads (tasks : List Task) (code : List ℕ) (number : ℕ) (h : HartState) (c : ContextState) : Type 0 where
  pub hart : HartState
  pub probes : List Probe
  pub did : Did
  pub context : ContextState
  pub step : hart_step code h ≡ Steps hart probes did
  pub explained : All (IsExplained tasks) probes
  pub held : hart.held ≡ Some context
  pub task_no : context.body.task_no ≡ c.body.task_no
  pub slot : context.slot ≡ c.slot
  pub outcome : IsUserOutcome tasks number hart context
  pub at_trap : (cause : ℕ) → did ≡ Trapped cause → IsAtTrap tasks number c.body.count cause hart context
