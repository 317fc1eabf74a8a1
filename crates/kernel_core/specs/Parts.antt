-- A core taken apart, and a core made of parts (this project's own).
use Rattle.std.specs.Prelude.{◌≡◌, ℕ, ◌-◌, ◌==◌, ◌||◌, Bool, List, [], ◌∷◌, length, drop, slice_get, Some}
use Rattle.hart_model.specs.HartState.{HartState}
use Rattle.core_model.specs.declared.loaded.Loaded.{Loaded}
use Rattle.core_model.specs.declared.plan.Plan.{Plan}
use Rattle.core_model.specs.Board.{BoardState}
use Rattle.core_model.specs.Orders.{HartPace, plan_at}
use Rattle.resting_hart.specs.Resting.{idle_at, taken_at as past_take_at}
use Rattle.timer_plan.specs.Pace.{PaceState, pace_of}
use Rattle.kernel_core.specs.declared.parts.Parts.{Parts}
use Rattle.kernel_core.specs.History.{CoreValue, history_over}
use Rattle.kernel_core.specs.PacedHistory.{PacedHistory, paced_from}
use Rattle.kernel_core.specs.Seats.{SeatValue, paces_of}

-- They are the core's own.
pub record ArePartsOf {K : Type 0} (c : CoreValue K) (p : Parts) : Type 0 where
  pub board : p.board ≡ c.run.board
  pub harts : p.harts ≡ c.run.harts
  pub paces : p.paces ≡ paces_of c.seats

-- A pace draws the plan's quanta from some place on, or none of them, and then its tail.
pub record IsPaceLeft (plan : Plan) (pace : PaceState) : Type 0 where
  pub drawn : ℕ
  pub left : pace.left ≡ drop drawn plan.quanta
  pub tail : pace.tail ≡ plan.tail

-- There is one for each plan, and it does so.
pub record ArePacesLeft (plans : List Plan) (paces : List PaceState) : Type 0 where
  pub count : length paces ≡ length plans
  pub each : (hart : ℕ) (pace : PaceState) → slice_get paces hart ≡ Some pace → IsPaceLeft (plan_at plans hart) pace

-- how many of the plan's quanta were drawn, by those that are left
abbrev pub drawn_by_left : Plan → PaceState → ℕ
drawn_by_left plan pace = length plan.quanta - length pace.left

-- A hart that rests has found nothing where it is past an empty take, or in the idle loop.
abbrev pub is_past_take : HartState → Bool
is_past_take h = h.pc == past_take_at || h.pc == idle_at

-- what is kept beside a hart that rests, and how far it is in its plan
abbrev pub seat_over : Plan → PaceState → HartState → SeatValue
seat_over plan pace h = record { pace = pace_of plan (drawn_by_left plan pace) 0; has_stopped = is_past_take h }

abbrev pub progress_over : Plan → PaceState → HartState → HartPace
progress_over plan pace h = record { takes = drawn_by_left plan pace; taken_at = 0; has_stopped = is_past_take h }

-- so it is of each hart
abbrev pub progress_along : List Plan → List PaceState → List HartState → List HartPace
progress_along (plan ∷ plans) (pace ∷ paces) (h ∷ hs) = progress_over plan pace h ∷ progress_along plans paces hs
progress_along plans paces hs = []

pub record AreSeatsOver (plans : List Plan) (paces : List PaceState) (hs : List HartState) (seats : List SeatValue) : Type 0 where
  pub count : length seats ≡ length hs
  pub each : (hart : ℕ) (h : HartState) (plan : Plan) (pace : PaceState) (s : SeatValue) → slice_get hs hart ≡ Some h → slice_get plans hart ≡ Some plan
      → slice_get paces hart ≡ Some pace → slice_get seats hart ≡ Some s → s ≡ seat_over plan pace h

-- told nothing but the parts of which it is made
abbrev pub paced_over : Loaded → BoardState → List HartState → List PaceState → PacedHistory
paced_over loaded board harts paces = paced_from (history_over loaded board harts) (progress_along loaded.plans paces harts)
