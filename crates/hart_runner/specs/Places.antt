-- A worker's place before it begins and after it has ended (this project's own).
use Rattle.std.specs.Prelude.{◌≡◌, ℕ, ◌<◌, MatchOption, List, slice_get, Some}
use Rattle.std.specs.declared.snapshot.Snapshot.{Snapshot}
use Rattle.core_model.specs.declared.loaded.Loaded.{Loaded}
use Rattle.core_model.specs.Loaded.{IsLoaded}
use Rattle.core_model.specs.Orders.{plan_at}
use Rattle.timer_plan.specs.Pace.{pace_of}
use Rattle.turn_lock.specs.declared.turns.Turns.{Turns}
use Rattle.turn_lock.specs.Passes.{IsPassOf, IsNewPass, pass_number, pass_seen, lock_frame}
use Rattle.hart_runner.specs.declared.board.CoreBoard.{CoreBoard}
use Rattle.hart_runner.specs.declared.place.Start.{Start}
use Rattle.hart_runner.specs.declared.place.Ended.{Ended}
use Rattle.hart_runner.specs.declared.place.Place.{Place}
use Rattle.hart_runner.specs.Working.{IsWorkerOf}
use Rattle.hart_runner.specs.Receipts.{IsReceiptOf}

abbrev pub Lock : Type 0
Lock = Turns CoreBoard (Snapshot Loaded)

-- the bundle that the lock was made for
abbrev pub bundle_of : Lock → Loaded
bundle_of lock = (lock_frame lock).value

-- it was loaded, and has a hart of this number
abbrev pub IsOfBundle : Lock → ℕ → Type 0
IsOfBundle lock number = IsLoaded (bundle_of lock) × (number < (bundle_of lock).harts)

-- What the worker of this hart begins with: a new pass of the lock, and the new pace of its plan.
pub record IsStart (lock : Lock) (number : ℕ) (start : Start) : Type 0 where
  pub pass : IsNewPass lock number start.pass
  pub pace : start.pace ≡ pace_of (plan_at (bundle_of lock).plans number) 0 0

-- What the worker of this hart ends with: a pass of the lock, and of the order that it has seen the hart, its counts and the receipt.
pub record IsEnded (lock : Lock) (number : ℕ) (ended : Ended) : Type 0 where
  pub pass : IsPassOf lock ended.pass
  pub pass_number_is : pass_number ended.pass ≡ number
  pub worker : IsWorkerOf (bundle_of lock) number (pass_seen ended.pass) ended.hart ended.tally
  pub receipt : IsReceiptOf (bundle_of lock) (pass_seen ended.pass) number ended.receipt

-- a place whose worker may begin, and the place of this hart after its worker has ended
abbrev pub IsReadyPlace : Lock → Place → Type 0
IsReadyPlace lock place = MatchOption place.start ⊥ (IsStart lock place.number)

abbrev pub IsServedPlace : Lock → ℕ → Place → Type 0
IsServedPlace lock number place = MatchOption place.ended ⊥ (IsEnded lock number)

-- the places of the harts 0, 1 and so on, before their workers begin
abbrev pub AreReadyPlaces : Lock → List Place → Type 0
AreReadyPlaces lock places = (i : ℕ) (place : Place) → slice_get places i ≡ Some place → (place.number ≡ i) × IsReadyPlace lock place

-- and after they have ended
abbrev pub AreServedPlaces : Lock → List Place → Type 0
AreServedPlaces lock places = (i : ℕ) (place : Place) → slice_get places i ≡ Some place → IsServedPlace lock i place
