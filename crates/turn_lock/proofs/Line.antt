-- Seats in line: what follows for one seat, and for the views of all.
use Rattle.std.proofs.Common.{◌≡◌, ℕ, zero, suc, ◌+◌, ◌≤◌, ◌<◌, ◌≢◌, true, false, true≢false, List, [], ◌∷◌, ◌++◌, length, set, sym, refl, ap, ◌∙◌, subst, ⊎_elim, arith}
use mathlib.Core.Logic.{dite}
use mathlib.Core.Option.{some, some-injective, some-ne-none}
use native.Mathlib.Decide.{ℕ_discrete}
use lib.ListN.{get_elem?}
use Rattle.atomic_table.proofs.Lists.{at_set, set_else, at_longer}
use Rattle.turn_lock.specs.declared.seat_view.SeatView.{SeatView}
use Rattle.turn_lock.specs.declared.seat_view.Stage.{Stage}
use Rattle.turn_lock.specs.declared.seat_view.Stage.TheVariants.{Idle, Waiting, InTurn}
use Rattle.turn_lock.specs.Stage.{ticket_count, HasTicket, has_turn}
use Rattle.turn_lock.specs.SeatView.{tickets_out, NobodyHasTurn}
use Rattle.turn_lock.specs.Rule.{Account, IsInLine}
use Rattle.turn_lock.proofs.Accounts.{after_draw, after_turn}
use Rattle.turn_lock.proofs.Places.{at_end}

ticket_count-le : (stage : Stage) → ticket_count stage ≤ 1
ticket_count-le Idle = omega arith
ticket_count-le (Waiting ticket) = omega arith
ticket_count-le (InTurn ticket) = omega arith

-- what is true of a seat in its turn
pub record IsServed (account : Account) (seen : List ℕ) (stage : Stage) : Type 0 where
  pub seen_whole : seen ≡ account.order
  pub drawn : account.now_serving < account.next_ticket
  pub ticket : HasTicket stage account.now_serving
  pub counted : ticket_count stage ≡ 1

module _ (account : Account) (seen : List ℕ) where
  pub turn_is_served : (stage : Stage) → IsInLine account seen stage → has_turn stage ≡ true → IsServed account seen stage
  turn_is_served Idle line turn = absurd (true≢false (sym turn))
  turn_is_served (Waiting ticket) line turn = absurd (true≢false (sym turn))
  turn_is_served (InTurn ticket) line turn = let same = line.0 in let below = line.1 in record { seen_whole = line.2; drawn = omega arith; ticket = line.0; counted = refl }

  -- a ticket that a seat has was drawn, and its turn hasn't ended
  pub ticket_is_out : (stage : Stage) (ticket : ℕ) → IsInLine account seen stage → HasTicket stage ticket → (account.now_serving ≤ ticket) × (ticket < account.next_ticket)
  ticket_is_out Idle ticket line has = absurd has
  ticket_is_out (Waiting own) ticket line has = let low = line.0 in let high = line.1 in (omega arith, omega arith)
  ticket_is_out (InTurn own) ticket line has = let same = line.0 in let high = line.1 in (omega arith, omega arith)

  pub in_line_after_draw : (stage : Stage) → IsInLine account seen stage → IsInLine (after_draw account) seen stage
  in_line_after_draw Idle line = tt
  in_line_after_draw (Waiting ticket) line = let below = line.1 in (line.0, omega arith)
  in_line_after_draw (InTurn ticket) line = let below = line.1 in (line.0, omega arith, line.2)

  -- a seat whose ticket wasn't served is in line after the turn too
  pub in_line_after_turn : (entries : List ℕ) (stage : Stage) → (HasTicket stage account.now_serving → ⊥) → IsInLine account seen stage → IsInLine (after_turn account entries) seen stage
  in_line_after_turn entries Idle other line = tt
  in_line_after_turn entries (Waiting ticket) other line = let low = line.0 in let apart : ticket ≢ account.now_serving = other in (omega arith, line.1)
  in_line_after_turn entries (InTurn ticket) other line = absurd (other line.0)

module _ {F : Type 0} where
  pub tickets_out-set : (views : List (SeatView F)) (place : ℕ) (v w : SeatView F) → get_elem? views place ≡ some v
      → tickets_out (set views place w) + ticket_count v.stage ≡ tickets_out views + ticket_count w.stage
  tickets_out-set [] place v w e = absurd (some-ne-none v (sym e))
  tickets_out-set (x ∷ xs) zero v w e = let same : ticket_count x.stage ≡ ticket_count v.stage = ap (λ (u : SeatView F). ticket_count u.stage) (some-injective x v e) in omega arith
  tickets_out-set (x ∷ xs) (suc place) v w e = let rest = tickets_out-set xs place v w e in omega arith

  pub tickets_out-le : (views : List (SeatView F)) → tickets_out views ≤ length views
  tickets_out-le [] = omega arith
  tickets_out-le (v ∷ vs) = let rest = tickets_out-le vs in let one = ticket_count-le v.stage in omega arith

  pub tickets_out-snoc : (views : List (SeatView F)) (v : SeatView F) → tickets_out (views ++ v ∷ []) ≡ tickets_out views + ticket_count v.stage
  tickets_out-snoc [] v = omega arith
  tickets_out-snoc (x ∷ xs) v = let rest = tickets_out-snoc xs v in omega arith

  -- no two views have the same ticket
  abbrev pub TicketsDiffer : List (SeatView F) → Type 0
  TicketsDiffer views = (i j ticket : ℕ) (v w : SeatView F) → get_elem? views i ≡ some v → get_elem? views j ≡ some w → HasTicket v.stage ticket → HasTicket w.stage ticket → i ≡ j

  -- where the new view has no ticket of another, tickets differ as before
  pub tickets_differ_set : (views : List (SeatView F)) (place : ℕ) (new : SeatView F) → TicketsDiffer views
      → ((j ticket : ℕ) (w : SeatView F) → j ≢ place → get_elem? views j ≡ some w → HasTicket new.stage ticket → HasTicket w.stage ticket → ⊥) → TicketsDiffer (set views place new)
  tickets_differ_set views place new old apart i j ticket v w at_i at_j has_i has_j =
      let moved : (u : SeatView F) → new ≡ u → HasTicket u.stage ticket → HasTicket new.stage ticket = (λ u same has. subst (λ (z : SeatView F). HasTicket z.stage ticket) (sym same) has) in ⊎_elim
      (λ (x : (i ≡ place) × (new ≡ v)). ⊎_elim (λ (y : (j ≡ place) × (new ≡ w)). x.0 ∙ sym y.0)
      (λ (y : (j ≢ place) × (get_elem? views j ≡ some w)). absurd (apart j ticket w y.0 y.1 (moved v x.1 has_i) has_j)) (at_set views place j new w at_j))
      (λ (x : (i ≢ place) × (get_elem? views i ≡ some v)). ⊎_elim (λ (y : (j ≡ place) × (new ≡ w)). absurd (apart i ticket v x.0 x.1 (moved w y.1 has_j) has_i))
      (λ (y : (j ≢ place) × (get_elem? views j ≡ some w)). old i j ticket v w x.1 y.1 has_i has_j) (at_set views place j new w at_j))
      (at_set views place i new v at_i)

  pub tickets_differ_snoc : (views : List (SeatView F)) (new : SeatView F) → ((ticket : ℕ) → HasTicket new.stage ticket → ⊥) → TicketsDiffer views → TicketsDiffer (views ++ new ∷ [])
  tickets_differ_snoc views new none old i j ticket v w at_i at_j has_i has_j =
      let was : (i : ℕ) (v : SeatView F) → get_elem? (views ++ new ∷ []) i ≡ some v → HasTicket v.stage ticket → get_elem? views i ≡ some v
      = (λ i v at has. ⊎_elim (λ was. was) (λ now. absurd (none ticket (subst (λ (z : SeatView F). HasTicket z.stage ticket) (sym now.1) has))) (at_end views new v i at)) in
      old i j ticket v w (was i v at_i has_i) (was j w at_j has_j) has_i has_j

  -- where nobody has the turn of a longer list, nobody had it before
  pub nobody_of_snoc : (views : List (SeatView F)) (new : SeatView F) → NobodyHasTurn (views ++ new ∷ []) → NobodyHasTurn views
  nobody_of_snoc views new nobody i v at = nobody i v (at_longer views (new ∷ []) i v at)

  -- where nobody has the turn, and the seat of the changed view had none either, nobody had it before
  pub nobody_of_set : (views : List (SeatView F)) (place : ℕ) (v new : SeatView F) → get_elem? views place ≡ some v → has_turn v.stage ≡ false → NobodyHasTurn (set views place new) → NobodyHasTurn views
  nobody_of_set views place v new at out nobody i w at_i turn = dite (ℕ_discrete i place)
      (λ same. let is : v ≡ w = some-injective v w (sym at ∙ (ap (get_elem? views) (sym same) ∙ at_i)) in true≢false (sym turn ∙ (ap (λ (z : SeatView F). has_turn z.stage) (sym is) ∙ out)))
      (λ other. nobody i w (set_else views place i new other ∙ at_i) turn)
