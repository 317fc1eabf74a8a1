-- What a clause says of a lock, of its passes, and of a pass in its turn.
use Rattle.std.specs.Prelude.{◌≡◌, ℕ, List, [], Some, slice_get}
use Rattle.turn_lock.specs.declared.turned.Turned.{Ghosts}
use Rattle.turn_lock.specs.declared.turns.Turns.{Turns}
use Rattle.turn_lock.specs.declared.passes.Pass.{Pass}
use Rattle.turn_lock.specs.declared.passes.Held.{Held}

module _ {V F : Type 0} where
  -- the frame that the lock was made with
  abbrev pub lock_frame : Turns V F → F
  lock_frame lock = lock.table.shared.key.frame

  -- how many seats the lock has
  abbrev pub lock_seats : Turns V F → ℕ
  lock_seats lock = lock.table.shared.key.seats

module _ {V F : Type 0} {g : Ghosts V F} where
  -- the number of the pass's seat
  abbrev pub pass_number : Pass V F g → ℕ
  pass_number pass = pass.seat.me.0.number

  -- the order that the pass has seen; its entries of the pass's number are those that the seat made
  abbrev pub pass_seen : Pass V F g → List ℕ
  pass_seen pass = pass.seat.me.0.seen

  -- the number of the seat that has the turn
  abbrev pub held_number : Held V F g → ℕ
  held_number held = held.seat.me.0.number

  -- the order at the lift
  abbrev pub held_order : Held V F g → List ℕ
  held_order held = held.seat.me.0.seen

  -- the pass is of this lock, and knows its frame
  abbrev pub IsPassOf : Turns V F → Pass V F g → Type 0
  IsPassOf lock pass = (pass.seat.table_id ≡ lock.table.shared.table_id) × (pass.seat.me.0.frame ≡ Some (lock_frame lock))

  -- the turn is of this lock, and its seat knows the lock's frame
  abbrev pub IsHeldOf : Turns V F → Held V F g → Type 0
  IsHeldOf lock held = (held.seat.table_id ≡ lock.table.shared.table_id) × (held.seat.me.0.frame ≡ Some (lock_frame lock))

  -- the pass is of this lock, has this number, and has seen the empty order, so it has made no entry
  abbrev pub IsNewPass : Turns V F → ℕ → Pass V F g → Type 0
  IsNewPass lock number pass = IsPassOf lock pass × (pass_number pass ≡ number) × (pass_seen pass ≡ [])

  -- the passes of a lock's seats, in the order of their numbers from 0 on, as new ones are
  abbrev pub AreNewPasses : Turns V F → List (Pass V F g) → Type 0
  AreNewPasses lock passes = (number : ℕ) (pass : Pass V F g) → slice_get passes number ≡ Some pass → IsNewPass lock number pass

  -- passes of the lock, in the order of their numbers from 0 on
  abbrev pub ArePassesInOrder : Turns V F → List (Pass V F g) → Type 0
  ArePassesInOrder lock passes = (number : ℕ) (pass : Pass V F g) → slice_get passes number ≡ Some pass → IsPassOf lock pass × (pass_number pass ≡ number)
