-- The rule holds of a new lock, seats that are made and joined keep it, and what it says once all are joined.
use Rattle.std.proofs.Common.{◌≡◌, ℕ, ◌+◌, ◌<◌, ◌≤◌, ◌≢◌, true≢false, List, [], ◌∷◌, length, set, sym, refl, ap, ◌∙◌, subst, ⊎_elim, arith, length-set, length-append, Option, Some}
use mathlib.Core.Logic.{dite}
use mathlib.Core.Option.{some, some-injective, some-ne-none}
use native.Mathlib.Decide.{ℕ_discrete}
use lib.ListN.{get_elem?}
use Rattle.atomic_table.specs.Table.{State, opening, Splits, Joins}
use Rattle.atomic_table.proofs.Lists.{set_else}
use Rattle.turn_lock.specs.declared.seat_view.SeatView.{SeatView}
use Rattle.turn_lock.specs.declared.seat_view.Stage.TheVariants.{Idle}
use Rattle.turn_lock.specs.declared.rule.LockKey.{LockKey}
use Rattle.turn_lock.specs.Order.{KnowsOwnEntries}
use Rattle.turn_lock.specs.Stage.{ticket_count, HasTicket, has_turn}
use Rattle.turn_lock.specs.SeatView.{opening_view, spent_view, new_seat_view, view_after_split, view_after_join}
use Rattle.turn_lock.specs.Rule.{Account, FitsOrIsSpent, IsTicketLock, HasJoinedAll, StandsForWhole}
use Rattle.turn_lock.proofs.Entries.{knows_whole}
use Rattle.turn_lock.proofs.Accounts.{after_split, after_join}
use Rattle.turn_lock.proofs.Places.{at_below, at_end, each_set, each_alone, each_snoc}
use Rattle.turn_lock.proofs.Line.{tickets_out-set, tickets_out-snoc, tickets_differ_set, tickets_differ_snoc, nobody_of_set, nobody_of_snoc}
use Rattle.turn_lock.proofs.Fits.{fits_of_framed, framed_of_fits, fits_after_split, fits_after_join, turn_of_fits}

opening_account : Account
opening_account = record { order = []; next_ticket = 0; now_serving = 0; seats_made = 1; seats_joined = 0 }

module _ {T F : Type 0} (stands : T → F → List ℕ → Type 0) (key : LockKey F) where
  -- A new lock meets the rule
  pub opening_meets_rule : (x : T) → 1 ≤ key.seats → key.seats ≤ 8 → stands x key.frame [] → IsTicketLock stands key (opening (0 ∷ 0 ∷ []) (Some x ∷ []) (opening_view key))
  unfolding opening_account
  opening_meets_rule x some_seat few right = record {
    account = opening_account;
    has_two_words = refl;
    has_one_slot = refl;
    has_a_view_each = refl;
    at_most_its_seats = some_seat;
    at_most_eight = few;
    first_not_joined = omega arith;
    ticket_word = refl;
    serving_word = refl;
    tickets_are_held = refl;
    tickets_differ = λ i j t v w at_i at_j has_i has_j. absurd (each_alone (λ k u. HasTicket u.stage t → ⊥) (opening_view key) (λ h. h) i v at_i has_i);
    views_fit = each_alone (λ j u. FitsOrIsSpent key opening_account j u u.frame) (opening_view key) record {
      number = refl;
      frame = refl;
      not_joined = λ other. absurd (other refl);
      seen = knows_whole 0 [];
      in_line = tt;
      knows_others = λ _. record { count = refl; joined = refl; orders = λ i seen at. absurd (some-ne-none seen (sym at)) };
    };
    entries_are_of_seats = λ n _. refl;
    value_is_home = λ _. (x, refl, right);
  }

  -- A split of seat 0: the new seat's number is the count of seats before, of which the order has no entry
  pub split_keeps_rule : (id : ℕ) (v : SeatView F) → v.number ≡ 0 → v.stage ≡ Idle → v.frame ≡ Some key.frame → v.seats_made < key.seats
      → Splits (IsTicketLock stands key) id v (view_after_split v) (new_seat_view v)
  split_keeps_rule id v is_first idle framed room s rule at =
      let a : Account = rule.account in
      let a' : Account = after_split a in
      let mine = fits_of_framed key a id v key.frame framed (rule.views_fit id v at) in
      let first : id ≡ 0 = sym mine.number ∙ is_first in
      let knows = mine.knows_others first in
      let made : v.seats_made ≡ a.seats_made = knows.count in
      let not_joined = rule.first_not_joined in
      let held = rule.tickets_are_held in
      let views = rule.has_a_view_each in
      let left : SeatView F = view_after_split v in
      let new : SeatView F = new_seat_view v in
      let vs : List (SeatView F) = set s.views id left in
      let long : length vs ≡ a.seats_made = length-set s.views id left ∙ rule.has_a_view_each in
      let sum = tickets_out-set s.views id v left at in
      let sum' = tickets_out-snoc vs new in
      let whole = length-append vs (new ∷ []) in
      let P : ℕ → SeatView F → Type 0 = λ j u. FitsOrIsSpent key a' j u u.frame in record {
        account = a';
        has_two_words = rule.has_two_words;
        has_one_slot = rule.has_one_slot;
        has_a_view_each = omega arith;
        at_most_its_seats = omega arith;
        at_most_eight = rule.at_most_eight;
        first_not_joined = omega arith;
        ticket_word = rule.ticket_word;
        serving_word = rule.serving_word;
        tickets_are_held = omega arith;
        tickets_differ = tickets_differ_snoc vs new (λ t has. has)
            (tickets_differ_set s.views id left rule.tickets_differ (λ j t u other at_j has_mine has_j. other (sym (rule.tickets_differ id j t v u at at_j has_mine has_j))));
        views_fit = each_snoc P vs new
            (framed_of_fits key a' (length vs) new record {
              number = made ∙ sym long;
              frame = framed;
              not_joined = λ _. omega arith;
              seen = ((a.order, refl), rule.entries_are_of_seats (length vs) (omega arith));
              in_line = tt;
              knows_others = λ zeroth. absurd (let none : length vs ≡ 0 = zeroth in omega arith);
            })
            (each_set P s.views id left
            (framed_of_fits key a' id left record {
              number = mine.number;
              frame = mine.frame;
              not_joined = mine.not_joined;
              seen = mine.seen;
              in_line = mine.in_line;
              knows_others = λ _. record { count = ap (λ n. n + 1) made; joined = knows.joined; orders = knows.orders };
            })
            (λ j u other at_j. fits_after_split key a j u (λ zeroth. other (zeroth ∙ sym first)) u.frame (rule.views_fit j u at_j)));
        entries_are_of_seats = λ n past. rule.entries_are_of_seats n (omega arith);
        value_is_home = λ nobody. rule.value_is_home (nobody_of_set s.views id v left at (ap has_turn idle) (nobody_of_snoc vs new nobody));
      }

  -- A join into seat 0 of the first seat that wasn't joined: seat 0 keeps what it had seen
  pub join_keeps_rule : (id other : ℕ) (v w : SeatView F) → v.number ≡ 0 → v.stage ≡ Idle → v.frame ≡ Some key.frame → w.stage ≡ Idle → w.frame ≡ Some key.frame
      → w.number ≡ length v.joined_orders + 1 → Joins (IsTicketLock stands key) id v other w (view_after_join v w) spent_view
  join_keeps_rule id other v w is_first idle framed idle' framed' next s rule at not at' =
      let a : Account = rule.account in
      let a' : Account = after_join a in
      let both : SeatView F = view_after_join v w in
      let vs : List (SeatView F) = set s.views id both in
      let old : get_elem? s.views other ≡ some w = sym (set_else s.views id other both not) ∙ at' in
      let mine = fits_of_framed key a id v key.frame framed (rule.views_fit id v at) in
      let his = fits_of_framed key a other w key.frame framed' (rule.views_fit other w old) in
      let first : id ≡ 0 = sym mine.number ∙ is_first in
      let knows = mine.knows_others first in
      let joined : length v.joined_orders ≡ a.seats_joined = knows.joined in
      let place : other ≡ a.seats_joined + 1 = sym his.number ∙ (next ∙ ap (λ n. n + 1) joined) in
      let inside = at_below s.views other w old in
      let views = rule.has_a_view_each in
      let held = rule.tickets_are_held in
      let sum = tickets_out-set s.views id v both at in
      let sum' = tickets_out-set vs other w spent_view at' in
      let had_none : ticket_count w.stage ≡ 0 = ap ticket_count idle' in
      let longer = length-append v.joined_orders (w.seen ∷ []) in
      let P : ℕ → SeatView F → Type 0 = λ j u. FitsOrIsSpent key a' j u u.frame in record {
        account = a';
        has_two_words = rule.has_two_words;
        has_one_slot = rule.has_one_slot;
        has_a_view_each = length-set vs other spent_view ∙ (length-set s.views id both ∙ rule.has_a_view_each);
        at_most_its_seats = rule.at_most_its_seats;
        at_most_eight = rule.at_most_eight;
        first_not_joined = omega arith;
        ticket_word = rule.ticket_word;
        serving_word = rule.serving_word;
        tickets_are_held = omega arith;
        tickets_differ = tickets_differ_set vs other spent_view
            (tickets_differ_set s.views id both rule.tickets_differ (λ j t u apart at_j has_mine has_j. apart (sym (rule.tickets_differ id j t v u at at_j has_mine has_j))))
            (λ j t u _ at_j has_mine has_j. absurd has_mine);
        views_fit = each_set P vs other spent_view refl (λ j u apart at_j. each_set (λ j u. j ≢ other → P j u) s.views id both
            (λ _. framed_of_fits key a' id both record {
              number = mine.number;
              frame = mine.frame;
              not_joined = λ elsewhere. absurd (elsewhere first);
              seen = mine.seen;
              in_line = mine.in_line;
              knows_others = λ _. record {
                count = knows.count;
                joined = omega arith;
                orders = λ i seen at_i. ⊎_elim (λ was. knows.orders i seen was)
                    (λ now. subst (λ (z : ℕ × List ℕ). KnowsOwnEntries z.0 z.1 a.order) (λ n. ((place ∙ ap (λ n. n + 1) (sym joined ∙ sym now.0)) n, now.1 n)) his.seen)
                    (at_end v.joined_orders w.seen seen i at_i);
              };
            })
            (λ j u elsewhere at_j apart. fits_after_join key a j u (λ zeroth. elsewhere (zeroth ∙ sym first)) (λ same. apart (same ∙ sym place)) u.frame (rule.views_fit j u at_j))
            j u at_j apart);
        entries_are_of_seats = rule.entries_are_of_seats;
        value_is_home = λ nobody. rule.value_is_home (nobody_of_set s.views id v both at (ap has_turn idle) (nobody_of_set vs other w spent_view at' (ap has_turn idle') nobody));
      }

  -- Where all other seats were joined, nobody has the turn, so the value is home
  pub closing_finds_value : (s : State (Option T) (SeatView F)) (id : ℕ) (v : SeatView F) → IsTicketLock stands key s → get_elem? s.views id ≡ some v → HasJoinedAll key v
      → (x : T) × (get_elem? s.homes 0 ≡ some (some (Some x))) × StandsForWhole stands key v x
  closing_finds_value s id v rule at all =
      let a : Account = rule.account in
      let mine = fits_of_framed key a id v key.frame all.frame (rule.views_fit id v at) in
      let first : id ≡ 0 = sym mine.number ∙ all.first in
      let knows = mine.knows_others first in
      let joined : length v.joined_orders ≡ a.seats_joined = knows.joined in
      let every = all.all_joined in
      let views = rule.has_a_view_each in
      let seats = rule.at_most_its_seats in
      let home = rule.value_is_home (λ j u at_j turn. dite (ℕ_discrete j 0)
      (λ zeroth. let is : u ≡ v = some-injective u v (sym at_j ∙ (ap (get_elem? s.views) (zeroth ∙ sym first) ∙ at)) in true≢false (sym turn ∙ (ap (λ (z : SeatView F). has_turn z.stage) is ∙ ap has_turn all.idle)))
      (λ elsewhere. let inside = at_below s.views j u at_j in let past = (turn_of_fits key a j u u.frame (rule.views_fit j u at_j) turn).not_joined elsewhere in omega arith)) in (
        home.0,
        home.1,
        record {
          order = a.order;
          value = home.2;
          known = subst (λ (n : ℕ). KnowsOwnEntries n v.seen a.order) first mine.seen;
          joined_known = knows.orders;
          no_other_entries = λ n past. rule.entries_are_of_seats n (omega arith);
        },
      )
