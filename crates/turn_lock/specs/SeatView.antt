-- What a seat knows: how its view begins, and what it is after a change.
use Rattle.std.specs.Prelude.{◌≡◌, ℕ, ◌+◌, true, List, [], ◌∷◌, ◌++◌, None, Some}
use mathlib.Core.Option.{some}
use lib.ListN.{get_elem?}
use Rattle.turn_lock.specs.declared.seat_view.SeatView.{SeatView}
use Rattle.turn_lock.specs.declared.seat_view.Stage.{Stage}
use Rattle.turn_lock.specs.declared.seat_view.Stage.TheVariants.{Idle}
use Rattle.turn_lock.specs.declared.rule.LockKey.{LockKey}
use Rattle.turn_lock.specs.Stage.{ticket_count, has_turn}

module _ {F : Type 0} where
  -- the view of seat 0 where so many seats were made, none of which has done anything
  abbrev pub first_view : F → ℕ → SeatView F
  first_view frame made = record { number = 0; frame = Some frame; seen = []; stage = Idle; seats_made = made; joined_orders = [] }

  -- the view of the first seat of a new lock
  abbrev pub opening_view : LockKey F → SeatView F
  opening_view key = first_view key.frame 1

  -- what is left of the view of a seat that was joined into seat 0
  abbrev pub spent_view : SeatView F
  spent_view = record { number = 0; frame = None; seen = []; stage = Idle; seats_made = 0; joined_orders = [] }

  -- the view of a seat that seat 0, with this view, makes
  abbrev pub new_seat_view : SeatView F → SeatView F
  new_seat_view v = record { number = v.seats_made; frame = v.frame; seen = []; stage = Idle; seats_made = 0; joined_orders = [] }

  -- the view of seat 0 after it made one more seat
  abbrev pub view_after_split : SeatView F → SeatView F
  view_after_split v = record { number = v.number; frame = v.frame; seen = v.seen; stage = v.stage; seats_made = v.seats_made + 1; joined_orders = v.joined_orders }

  -- the view of seat 0 after seats were joined into it that had seen these orders
  abbrev pub view_after_joins : SeatView F → List (List ℕ) → SeatView F
  view_after_joins v orders = record { number = v.number; frame = v.frame; seen = v.seen; stage = v.stage; seats_made = v.seats_made; joined_orders = v.joined_orders ++ orders }

  -- the view of seat 0 after a seat with the second view was joined into it
  abbrev pub view_after_join : SeatView F → SeatView F → SeatView F
  view_after_join v w = view_after_joins v (w.seen ∷ [])

  -- the view of a seat that has seen another order and is at another stage
  abbrev pub view_with : SeatView F → List ℕ → Stage → SeatView F
  view_with v seen stage = record { number = v.number; frame = v.frame; seen = seen; stage = stage; seats_made = v.seats_made; joined_orders = v.joined_orders }

  -- the view of a seat that is at another stage
  abbrev pub view_at : SeatView F → Stage → SeatView F
  view_at v stage = view_with v v.seen stage

  -- how many of the seats with these views have a ticket
  abbrev pub tickets_out : List (SeatView F) → ℕ
  tickets_out [] = 0
  tickets_out (v ∷ vs) = ticket_count v.stage + tickets_out vs

  -- none of the seats with these views has the turn
  abbrev pub NobodyHasTurn : List (SeatView F) → Type 0
  NobodyHasTurn views = (place : ℕ) (v : SeatView F) → get_elem? views place ≡ some v → has_turn v.stage ≡ true → ⊥
