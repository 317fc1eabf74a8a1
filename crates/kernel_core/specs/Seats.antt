-- What a core keeps beside each of its harts (this project's own).
use Rattle.std.specs.Prelude.{◌≡◌, Bool, true, false, List, map, Option, Some}
use Rattle.hart_model.specs.HartState.{HartState}
use Rattle.core_model.specs.declared.action.Action.{Action}
use Rattle.core_model.specs.declared.action.Action.TheVariants.{Empty}
use Rattle.core_model.specs.declared.plan.Plan.{Plan}
use Rattle.core_model.specs.Orders.{HartPace}
use Rattle.timer_plan.specs.Pace.{PaceState, pace_of}
use Rattle.hart_advance.specs.Pacing.{IsPaceOf}

-- its pace, and whether it has found nothing
pub record SeatValue : Type 0 where
  pub pace : PaceState
  pub has_stopped : Bool

-- the paces alone
abbrev pub paces_of : List SeatValue → List PaceState
paces_of seats = map (λ (s : SeatValue). s.pace) seats

-- before the first take
abbrev pub boot_seat : Plan → SeatValue
boot_seat plan = record { pace = pace_of plan 0 0; has_stopped = false }

-- a hart that finds nothing has found nothing from then on
abbrev pub stopped_by : Option Action → Bool → Bool
stopped_by (Some Empty) has_stopped = true
stopped_by action has_stopped = has_stopped

-- This is how far the hart is in its plan.
pub record IsSeatOf (plan : Plan) (progress : HartPace) (h : HartState) (s : SeatValue) : Type 0 where
  pub pace : IsPaceOf plan progress h s.pace
  pub stopped : s.has_stopped ≡ progress.has_stopped
