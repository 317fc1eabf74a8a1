-- Views in their places after a step of another seat.
use Rattle.std.proofs.Common.{◌≡◌, ℕ, ◌+◌, ◌≤◌, ◌<◌, ◌≢◌, true, true≢false, List, sym, ap, ◌∙◌, subst, arith, Option, None, Some}
use Rattle.turn_lock.specs.declared.seat_view.SeatView.{SeatView}
use Rattle.turn_lock.specs.declared.rule.LockKey.{LockKey}
use Rattle.turn_lock.specs.Order.{entries_of}
use Rattle.turn_lock.specs.Stage.{HasTicket, has_turn}
use Rattle.turn_lock.specs.Rule.{Account, FitsPlace, FitsOrIsSpent}
use Rattle.turn_lock.proofs.Entries.{knows_longer}
use Rattle.turn_lock.proofs.Accounts.{after_draw, after_turn, after_split, after_join}
use Rattle.turn_lock.proofs.Places.{at_below}
use Rattle.turn_lock.proofs.Line.{turn_is_served, ticket_is_out, in_line_after_draw, in_line_after_turn}

module _ {F : Type 0} (key : LockKey F) (account : Account) (place : ℕ) (v : SeatView F) where
  -- the view of a seat with a frame isn't spent
  pub fits_of_framed : (frame : F) → v.frame ≡ Some frame → FitsOrIsSpent key account place v v.frame → FitsPlace key account place v
  fits_of_framed frame framed fits = subst (FitsOrIsSpent key account place v) framed fits

  pub framed_of_fits : FitsPlace key account place v → FitsOrIsSpent key account place v v.frame
  framed_of_fits fits = subst (FitsOrIsSpent key account place v) (sym fits.frame) fits

  pub fits_after_draw : (frame : Option F) → FitsOrIsSpent key account place v frame → FitsOrIsSpent key (after_draw account) place v frame
  fits_after_draw None fits = fits
  fits_after_draw (Some frame) fits = record {
    number = fits.number;
    frame = fits.frame;
    not_joined = fits.not_joined;
    seen = fits.seen;
    in_line = in_line_after_draw account v.seen v.stage fits.in_line;
    knows_others = λ first. let knows = fits.knows_others first in record { count = knows.count; joined = knows.joined; orders = knows.orders };
  }

  -- a turn of another seat, whose entries are all of its own number
  pub fits_after_turn : (entries : List ℕ) (turn : ℕ) → ((n : ℕ) → n ≢ turn → entries_of n entries ≡ 0) → (turn ≢ 0 → account.seats_joined < turn) → place ≢ turn
      → (HasTicket v.stage account.now_serving → ⊥) → (frame : Option F) → FitsOrIsSpent key account place v frame → FitsOrIsSpent key (after_turn account entries) place v frame
  fits_after_turn entries turn own not_joined other waits None fits = fits
  fits_after_turn entries turn own not_joined other waits (Some frame) fits = record {
    number = fits.number;
    frame = fits.frame;
    not_joined = fits.not_joined;
    seen = knows_longer place v.seen account.order entries (own place other) fits.seen;
    in_line = in_line_after_turn account v.seen entries v.stage waits fits.in_line;
    knows_others = λ first. let knows = fits.knows_others first in record {
      count = knows.count;
      joined = knows.joined;
      orders = λ i seen at.
          let below = at_below v.joined_orders i seen at in
          let all = knows.joined in
          let past = not_joined (λ z. other (first ∙ sym z)) in
          knows_longer (i + 1) seen account.order entries (own (i + 1) (λ same. omega arith)) (knows.orders i seen at);
    };
  }

  -- seat 0 made another seat
  pub fits_after_split : place ≢ 0 → (frame : Option F) → FitsOrIsSpent key account place v frame → FitsOrIsSpent key (after_split account) place v frame
  fits_after_split other None fits = fits
  fits_after_split other (Some frame) fits = record {
    number = fits.number;
    frame = fits.frame;
    not_joined = fits.not_joined;
    seen = fits.seen;
    in_line = fits.in_line;
    knows_others = λ first. absurd (other first);
  }

  -- another seat was joined into seat 0
  pub fits_after_join : place ≢ 0 → place ≢ account.seats_joined + 1 → (frame : Option F) → FitsOrIsSpent key account place v frame → FitsOrIsSpent key (after_join account) place v frame
  fits_after_join other not_it None fits = fits
  fits_after_join other not_it (Some frame) fits = record {
    number = fits.number;
    frame = fits.frame;
    not_joined = λ _. let past = fits.not_joined other in omega arith;
    seen = fits.seen;
    in_line = fits.in_line;
    knows_others = λ first. absurd (other first);
  }

  -- a spent view has no ticket
  pub ticket_of_fits : (frame : Option F) → FitsOrIsSpent key account place v frame → (ticket : ℕ) → HasTicket v.stage ticket → (account.now_serving ≤ ticket) × (ticket < account.next_ticket)
  ticket_of_fits None fits ticket has = absurd (subst (λ (z : SeatView F). HasTicket z.stage ticket) fits has)
  ticket_of_fits (Some frame) fits ticket has = ticket_is_out account v.seen v.stage ticket fits.in_line has

  -- a spent view has no turn
  pub turn_of_fits : (frame : Option F) → FitsOrIsSpent key account place v frame → has_turn v.stage ≡ true → FitsPlace key account place v
  turn_of_fits None fits turn = absurd (true≢false (sym turn ∙ ap (λ (z : SeatView F). has_turn z.stage) fits))
  turn_of_fits (Some frame) fits turn = fits

  pub served_of_fits : FitsPlace key account place v → has_turn v.stage ≡ true → HasTicket v.stage account.now_serving
  served_of_fits fits turn = (turn_is_served account v.seen v.stage fits.in_line turn).ticket
