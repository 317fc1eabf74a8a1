-- The rule of the lock: what is true of its words, its slot and its seats between any two steps.
use Rattle.std.specs.Prelude.{◌≡◌, ◌≢◌, ℕ, ◌+◌, ◌%◌, ◌^◌, ◌<◌, ◌≤◌, List, length, slice_index, Option, None, Some}
use mathlib.Core.Option.{some}
use lib.ListN.{get_elem?}
use Rattle.atomic_table.specs.Table.{State}
use Rattle.turn_lock.specs.declared.seat_view.SeatView.{SeatView}
use Rattle.turn_lock.specs.declared.seat_view.Stage.{Stage}
use Rattle.turn_lock.specs.declared.seat_view.Stage.TheVariants.{Idle, Waiting, InTurn}
use Rattle.turn_lock.specs.declared.rule.LockKey.{LockKey}
use Rattle.turn_lock.specs.Order.{entries_of, KnowsOwnEntries}
use Rattle.turn_lock.specs.Stage.{HasTicket}
use Rattle.turn_lock.specs.SeatView.{spent_view, tickets_out, NobodyHasTurn}

-- what no word and no view of one seat tells: the lock's books, which exist in the proofs alone
pub record Account : Type 0 where
  -- the entries so far
  pub order : List ℕ
  -- how many tickets were drawn so far, which is the ticket that is drawn next
  pub next_ticket : ℕ
  -- how many turns have ended so far, which is the ticket that has the turn
  pub now_serving : ℕ
  -- how many seats were made so far
  pub seats_made : ℕ
  -- how many of them were joined into seat 0 so far
  pub seats_joined : ℕ

-- a seat that has seen this much stands rightly in line: its ticket was drawn and its turn hasn't ended, and in its turn it has the ticket served and has seen the whole order
abbrev pub IsInLine : Account → List ℕ → Stage → Type 0
IsInLine account seen Idle = Unit {0}
IsInLine account seen (Waiting ticket) = (account.now_serving ≤ ticket) × (ticket < account.next_ticket)
IsInLine account seen (InTurn ticket) = (ticket ≡ account.now_serving) × (ticket < account.next_ticket) × (seen ≡ account.order)

-- the seats 1, 2 and so on, which were joined, have seen these orders
abbrev pub KnowsJoined : List ℕ → List (List ℕ) → Type 0
KnowsJoined order orders = (i : ℕ) (seen : List ℕ) → get_elem? orders i ≡ some seen → KnowsOwnEntries (i + 1) seen order

module _ {F : Type 0} where
  -- what seat 0 knows of the other seats
  pub record KnowsOthers (account : Account) (v : SeatView F) : Type 0 where
    -- It knows how many seats were made.
    pub count : v.seats_made ≡ account.seats_made
    -- It has an order of each seat that was joined into it.
    pub joined : length v.joined_orders ≡ account.seats_joined
    -- These are what the joined seats had seen.
    pub orders : KnowsJoined account.order v.joined_orders

  -- the view in this place belongs to a seat of the lock
  pub record FitsPlace (key : LockKey F) (account : Account) (place : ℕ) (v : SeatView F) : Type 0 where
    -- A seat's number is the place of its view.
    pub number : v.number ≡ place
    -- Every seat knows the lock's frame.
    pub frame : v.frame ≡ Some key.frame
    -- The seats 1 to `seats_joined` were joined, and this one wasn't.
    pub not_joined : place ≢ 0 → account.seats_joined < place
    -- It has seen a beginning of the order, with all its own entries.
    pub seen : KnowsOwnEntries place v.seen account.order
    -- Its ticket is one of those that are out.
    pub in_line : IsInLine account v.seen v.stage
    -- Seat 0 keeps count of the others.
    pub knows_others : place ≡ 0 → KnowsOthers account v

  -- a view with no frame is spent, and one with a frame belongs to a seat
  abbrev pub FitsOrIsSpent : LockKey F → Account → ℕ → SeatView F → Option F → Type 0
  FitsOrIsSpent key account place v None = v ≡ spent_view
  FitsOrIsSpent key account place v (Some frame) = FitsPlace key account place v

-- The state is one of a ticket lock whose value stands for the order
pub record IsTicketLock {T F : Type 0} (stands : T → F → List ℕ → Type 0) (key : LockKey F) (s : State (Option T) (SeatView F)) : Type 0 where
  -- There are books that agree with the state.
  pub account : Account
  -- The words are TICKET and SERVING.
  pub has_two_words : length s.words ≡ 2
  -- The slot has the value, or nothing.
  pub has_one_slot : length s.homes ≡ 1
  -- Each seat that was made has a view, in the place of its number.
  pub has_a_view_each : length s.views ≡ account.seats_made
  -- No more seats are made than the lock is for.
  pub at_most_its_seats : account.seats_made ≤ key.seats
  -- The lock is for at most 8 seats, so far fewer tickets are out than a word can tell apart.
  pub at_most_eight : key.seats ≤ 8
  -- Seat 0 is never joined into another.
  pub first_not_joined : account.seats_joined < account.seats_made
  -- Word 0 is the next ticket, cut off at 64 bits.
  pub ticket_word : slice_index s.words 0 ≡ account.next_ticket % 2 ^ 64
  -- Word 1 is the ticket served, cut off at 64 bits.
  pub serving_word : slice_index s.words 1 ≡ account.now_serving % 2 ^ 64
  -- As many seats have a ticket as tickets are out.
  pub tickets_are_held : account.now_serving + tickets_out s.views ≡ account.next_ticket
  -- No two seats have the same ticket.
  pub tickets_differ : (i j ticket : ℕ) (v w : SeatView F) → get_elem? s.views i ≡ some v → get_elem? s.views j ≡ some w → HasTicket v.stage ticket → HasTicket w.stage ticket → i ≡ j
  -- Each view is that of a seat in its place, or is spent.
  pub views_fit : (place : ℕ) (v : SeatView F) → get_elem? s.views place ≡ some v → FitsOrIsSpent key account place v v.frame
  -- Every entry was made by a seat.
  pub entries_are_of_seats : (number : ℕ) → account.seats_made ≤ number → entries_of number account.order ≡ 0
  -- While no seat has the turn, the value is in the slot, and stands for the frame and the order.
  pub value_is_home : NobodyHasTurn s.views → (x : T) × (get_elem? s.homes 0 ≡ some (some (Some x))) × stands x key.frame account.order

-- the view is that of seat 0, which is idle, and all other seats were joined into it
pub record HasJoinedAll {F : Type 0} (key : LockKey F) (v : SeatView F) : Type 0 where
  pub first : v.number ≡ 0
  pub idle : v.stage ≡ Idle
  pub frame : v.frame ≡ Some key.frame
  pub all_joined : length v.joined_orders + 1 ≡ key.seats

-- the value stands for an order that agrees with all that seat 0, with this view, and the seats joined into it had seen
pub record StandsForWhole {T F : Type 0} (stands : T → F → List ℕ → Type 0) (key : LockKey F) (v : SeatView F) (x : T) : Type 0 where
  pub order : List ℕ
  pub value : stands x key.frame order
  pub known : KnowsOwnEntries 0 v.seen order
  pub joined_known : KnowsJoined order v.joined_orders
  -- Every entry was made by one of the seats.
  pub no_other_entries : (number : ℕ) → key.seats ≤ number → entries_of number order ≡ 0
