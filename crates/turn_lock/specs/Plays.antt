-- What each step of a seat tells the seat: its view and the slots that it holds before the step, the word found, and both after the step.
use Rattle.std.specs.Prelude.{◌≡◌, ◌≢◌, ℕ, ◌%◌, ◌^◌, List, [], ◌∷◌, ◌++◌, Option, Some}
use Rattle.atomic_table.specs.Table.{Me, Step, rest}
use Rattle.turn_lock.specs.declared.seat_view.SeatView.{SeatView}
use Rattle.turn_lock.specs.declared.seat_view.Stage.TheVariants.{Idle, Waiting, InTurn}
use Rattle.turn_lock.specs.Order.{KnowsOwnEntries}
use Rattle.turn_lock.specs.Stage.{ticket_of}
use Rattle.turn_lock.specs.SeatView.{view_with, view_at}

module _ {T F : Type 0} where
  -- the seat waits with a ticket, which is the word found
  abbrev pub DrawsTicket : Step (Option T) → Me (Option T) (SeatView F) → ℕ → Me (Option T) (SeatView F) → Type 0
  DrawsTicket step before found after = (ticket : ℕ) × (found ≡ ticket % 2 ^ 64) × (after ≡ (view_at before.0 (Waiting ticket), before.1))

  -- the seat has the turn, with the value out of the slot
  pub record HasTurnNow (stands : T → F → List ℕ → Type 0) (before after : Me (Option T) (SeatView F)) : Type 0 where
    pub order : List ℕ
    pub value : T
    pub frame : F
    -- It has seen the whole order, has the turn with its ticket, and holds the slot with the value.
    pub turn : after ≡ (view_with before.0 order (InTurn (ticket_of before.0.stage)), (0, Some value) ∷ before.1)
    -- What it had seen begins the order, and has all its own entries.
    pub known : KnowsOwnEntries before.0.number before.0.seen order
    pub frame_is : before.0.frame ≡ Some frame
    -- The value stands for the order.
    pub value_stands : stands value frame order

  -- where the word found is its ticket, the seat has the turn; else nothing is changed
  abbrev pub LooksForTurn : (T → F → List ℕ → Type 0) → Step (Option T) → Me (Option T) (SeatView F) → ℕ → Me (Option T) (SeatView F) → Type 0
  LooksForTurn stands step before found after =
      (found ≡ ticket_of before.0.stage % 2 ^ 64 → HasTurnNow stands before after) × (found ≢ ticket_of before.0.stage % 2 ^ 64 → after ≡ before)

  -- the seat has given back the slot and is idle, and has seen these entries more, which its turn made
  abbrev pub EndsTurn : List ℕ → Step (Option T) → Me (Option T) (SeatView F) → ℕ → Me (Option T) (SeatView F) → Type 0
  EndsTurn entries step before found after = after ≡ (view_with before.0 (before.0.seen ++ entries) Idle, rest before.1)

  -- the turn made one entry
  abbrev pub EndsWithEntry : Step (Option T) → Me (Option T) (SeatView F) → ℕ → Me (Option T) (SeatView F) → Type 0
  EndsWithEntry step before found after = EndsTurn (before.0.number ∷ []) step before found after

  -- the turn made no entry
  abbrev pub EndsWithoutEntry : Step (Option T) → Me (Option T) (SeatView F) → ℕ → Me (Option T) (SeatView F) → Type 0
  EndsWithoutEntry step before found after = EndsTurn [] step before found after
