-- Where a seat stands in line. Tickets are counted from 0 without wrapping.
use Rattle.std.specs.Prelude.{◌≡◌, ℕ, ◌%◌, ◌^◌, Bool, true, false}
use Rattle.turn_lock.specs.declared.seat_view.Stage.{Stage}
use Rattle.turn_lock.specs.declared.seat_view.Stage.TheVariants.{Idle, Waiting, InTurn}

-- how many tickets a seat at this stage has: one, or none
abbrev pub ticket_count : Stage → ℕ
ticket_count Idle = 0
ticket_count (Waiting ticket) = 1
ticket_count (InTurn ticket) = 1

-- the ticket of a seat that has one
abbrev pub ticket_of : Stage → ℕ
ticket_of Idle = 0
ticket_of (Waiting ticket) = ticket
ticket_of (InTurn ticket) = ticket

-- the seat has this ticket
abbrev pub HasTicket : Stage → ℕ → Type 0
HasTicket Idle ticket = ⊥
HasTicket (Waiting own) ticket = own ≡ ticket
HasTicket (InTurn own) ticket = own ≡ ticket

abbrev pub has_turn : Stage → Bool
has_turn Idle = false
has_turn (Waiting ticket) = false
has_turn (InTurn ticket) = true

-- the seat waits, and the word is its ticket modulo 2 ^ 64
abbrev pub IsWaitingWith : Stage → ℕ → Type 0
IsWaitingWith stage word = (stage ≡ Waiting (ticket_of stage)) × (word ≡ ticket_of stage % 2 ^ 64)
