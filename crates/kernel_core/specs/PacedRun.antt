-- A board with harts, one of which steps under its plan (this project's own).
use Rattle.std.specs.Prelude.{◌≡◌, ℕ, set, slice_get, Option, Some, None}
use Rattle.hart_model.specs.HartState.{HartState}
use Rattle.core_model.specs.declared.plan.Plan.{Plan}
use Rattle.core_model.specs.Orders.{HartPace}
use Rattle.timer_plan.specs.Pace.{PaceState}
use Rattle.hart_advance.specs.Pacing.{IsPaceOf, due_hart}
use Rattle.kernel_core.specs.Running.{RunValue}

-- the pace stands for how far the hart of this number is in its plan
abbrev pub IsPaceIn : RunValue → ℕ → Plan → HartPace → PaceState → Type 0
IsPaceIn r number plan progress pace = (h : HartState) → slice_get r.harts number ≡ Some h → IsPaceOf plan progress h pace

-- with the tick before the next step of the hart of this number, where its plan has one there
abbrev pub with_due : Plan → HartPace → ℕ → RunValue → Option HartState → RunValue
with_due plan progress number r None = r
with_due plan progress number r (Some h) = record r { harts = set r.harts number (due_hart plan progress h) }

abbrev pub ticked_run : Plan → HartPace → ℕ → RunValue → RunValue
ticked_run plan progress number r = with_due plan progress number r (slice_get r.harts number)
