-- A hart under its plan, as code steps it (this project's own): the pace that code keeps, the tick, and the step.
use Rattle.std.specs.Prelude.{◌≡◌, ℕ, ◌+◌, ◌==◌, ◌&&◌, not, Bool, true, false, List, Some}
use Rattle.hart_model.specs.Context.{ContextState}
use Rattle.hart_model.specs.HartState.{HartState}
use Rattle.hart_model.specs.StepResult.{StepResult}
use Rattle.hart_model.specs.UserStep.{is_fuel_used}
use Rattle.hart_model.specs.HartStep.{hart_step}
use Rattle.core_model.specs.declared.plan.Plan.{Plan}
use Rattle.core_model.specs.declared.loaded.Loaded.{Loaded}
use Rattle.core_model.specs.Loaded.{IsWithinLimits}
use Rattle.core_model.specs.Routines.{ticked_if}
use Rattle.core_model.specs.Orders.{HartPace, is_tick_due, is_user}
use Rattle.core_invariant.specs.KernelStates.{KernelParts, IsKernel}
use Rattle.core_invariant.specs.CutPoints.{IsOnItsWay}
use Rattle.timer_plan.specs.Pace.{PaceState, pace_of}

-- The pace of code stands for how far a hart is in its plan: it is the plan's pace after as many takes, and where the hart holds a task, as many
-- instructions ran as the task has executed since it was taken.
pub record IsPaceOf (plan : Plan) (progress : HartPace) (h : HartState) (pace : PaceState) : Type 0 where
  pub ran : ℕ
  pub drawn : pace ≡ pace_of plan progress.takes ran
  pub counts : (c : ContextState) → h.held ≡ Some c → progress.taken_at + ran ≡ c.body.count

-- a hart before its next step, after the tick where the plan has one there; and this step
abbrev pub due_hart : Plan → HartPace → HartState → HartState
due_hart plan progress h = ticked_if (is_tick_due plan progress h) h

abbrev pub paced_step : List ℕ → Plan → HartPace → HartState → StepResult
paced_step code plan progress h = hart_step code (due_hart plan progress h)

-- A hart of some bundle within the limits, somewhere on its way under a kernel that has this code.
pub record IsUnderKernel (code : List ℕ) (h : HartState) : Type 0 where
  pub loaded : Loaded
  pub kernel : KernelParts
  pub number : ℕ
  pub within : IsWithinLimits loaded
  pub is_kernel : IsKernel kernel
  pub words : code ≡ kernel.code.words
  pub way : IsOnItsWay loaded.tasks kernel number h

-- Whether code ticks: in user mode, with fuel left, where as many instructions ran as the quantum says. It doesn't ask whether the timer is
-- pending already, since a second tick changes nothing.
abbrev pub is_quantum_over : HartState → PaceState → Bool
is_quantum_over h pace = is_user h.csrs.mode && not (is_fuel_used h.held) && (pace.ran == pace.quantum)

-- the pace after a step, by whether the task's count stayed as it was
abbrev pub counted : Bool → PaceState → PaceState
counted true pace = pace
counted false pace = record pace { ran = pace.ran + 1 }
