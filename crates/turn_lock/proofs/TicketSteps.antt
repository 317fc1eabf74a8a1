-- A draw of a ticket and a look at the ticket served keep the rule.
use Rattle.std.proofs.Common.{◌≡◌, ℕ, ◌+◌, ◌%◌, ◌^◌, ◌≤◌, ◌<◌, false, true≢false, List, get_or, sym, refl, ap, ◌∙◌, subst, arith, length-set, get_or-set_other, get_or-set_same, Option, Some}
use mathlib.Core.Logic.{dite}
use mathlib.Core.Option.{none, some, some-injective}
use native.Mathlib.Decide.{ℕ_discrete}
use lib.ListN.{get_elem?}
use lib.Seq.{set-get_or}
use Rattle.atomic_table.specs.Table.{State, Me, step, keeps, takes, stepped, Allows}
use Rattle.atomic_table.proofs.Lists.{set_here, set_again, one_turn}
use Rattle.turn_lock.specs.declared.seat_view.SeatView.{SeatView}
use Rattle.turn_lock.specs.declared.seat_view.Stage.{Stage}
use Rattle.turn_lock.specs.declared.seat_view.Stage.TheVariants.{Idle, Waiting, InTurn}
use Rattle.turn_lock.specs.declared.rule.LockKey.{LockKey}
use Rattle.turn_lock.specs.Order.{KnowsOwnEntries}
use Rattle.turn_lock.specs.Stage.{ticket_count, ticket_of, HasTicket, has_turn}
use Rattle.turn_lock.specs.SeatView.{view_with, view_at, NobodyHasTurn}
use Rattle.turn_lock.specs.Rule.{Account, IsInLine, FitsOrIsSpent, IsTicketLock}
use Rattle.turn_lock.specs.Plays.{DrawsTicket, LooksForTurn}
use Rattle.turn_lock.proofs.Entries.{knows_whole}
use Rattle.turn_lock.proofs.Accounts.{after_draw}
use Rattle.turn_lock.proofs.Places.{at_below, each_set}
use Rattle.turn_lock.proofs.Line.{tickets_out-set, tickets_out-le, tickets_differ_set, nobody_of_set}
use Rattle.turn_lock.proofs.Fits.{fits_of_framed, framed_of_fits, fits_after_draw, ticket_of_fits, turn_of_fits, served_of_fits}

module _ {T F : Type 0} (stands : T → F → List ℕ → Type 0) (key : LockKey F) where
  -- A draw: the seat gets the next ticket, which no other seat has
  pub draw_keeps_rule : (slots id : ℕ) (me : Me (Option T) (SeatView F)) (frame : F) → me.0.stage ≡ Idle → me.0.frame ≡ Some frame
      → Allows (IsTicketLock stands key) slots id me 0 (λ n. (n + 1) % 2 ^ 64) (DrawsTicket (step slots 0 1 0 none) me)
  draw_keeps_rule slots id me frame idle framed s rule _ at small =
      let v : SeatView F = me.0 in
      let a : Account = rule.account in
      let ticket : ℕ = a.next_ticket in
      let w : SeatView F = view_at v (Waiting ticket) in
      let word : ℕ = get_or s.words 0 0 in
      let is : word ≡ ticket % 18446744073709551616 = rule.ticket_word in
      let two = rule.has_two_words in
      let next : (word + 1) % 18446744073709551616 ≡ (ticket + 1) % 18446744073709551616 = omega arith in
      let sum = tickets_out-set s.views id v w at in
      let had_none : ticket_count v.stage ≡ 0 = ap ticket_count idle in
      let held = rule.tickets_are_held in
      let mine = fits_of_framed key a id v frame framed (rule.views_fit id v at) in (
        w,
        keeps,
        tt,
        record {
          account = after_draw a;
          has_two_words = length-set s.words 0 ((word + 1) % 2 ^ 64) ∙ rule.has_two_words;
          has_one_slot = rule.has_one_slot;
          has_a_view_each = length-set s.views id w ∙ rule.has_a_view_each;
          at_most_its_seats = rule.at_most_its_seats;
          at_most_eight = rule.at_most_eight;
          first_not_joined = rule.first_not_joined;
          ticket_word = get_or-set_same s.words 0 ((word + 1) % 2 ^ 64) 0 (omega arith) ∙ next;
          serving_word = get_or-set_other s.words 0 1 ((word + 1) % 2 ^ 64) 0 (λ e. omega arith) ∙ rule.serving_word;
          tickets_are_held = omega arith;
          tickets_differ = tickets_differ_set s.views id w rule.tickets_differ
              (λ j other u _ at_j has has_j. let out = ticket_of_fits key a j u u.frame (rule.views_fit j u at_j) other has_j in let below = out.1 in let same : ticket ≡ other = has in omega arith);
          views_fit = each_set (λ j u. FitsOrIsSpent key (after_draw a) j u u.frame) s.views id w
              (framed_of_fits key (after_draw a) id w record {
                number = mine.number;
                frame = mine.frame;
                not_joined = mine.not_joined;
                seen = mine.seen;
                in_line = (omega arith, omega arith);
                knows_others = λ first. let knows = mine.knows_others first in record { count = knows.count; joined = knows.joined; orders = knows.orders };
              })
              (λ j u _ at_j. fits_after_draw key a j u u.frame (rule.views_fit j u at_j));
          entries_are_of_seats = rule.entries_are_of_seats;
          value_is_home = λ nobody. rule.value_is_home (nobody_of_set s.views id v w at (ap has_turn idle) nobody);
        },
        (ticket, is, refl),
      )

  -- a look that finds another ticket changes nothing
  unchanged : (s : State (Option T) (SeatView F)) → IsTicketLock stands key s → (i id : ℕ) (me : Me (Option T) (SeatView F)) → get_elem? s.views id ≡ some me.0
      → IsTicketLock stands key (stepped s i (get_or s.words i 0) id me.1 me.0 keeps)
  unchanged s rule i id me at = subst (λ (z : List ℕ × List (SeatView F)). IsTicketLock stands key record { words = z.0; homes = s.homes; views = z.1 })
      (λ j. (sym (set-get_or s.words i 0) j, sym (set_again s.views id me.0 at) j)) rule

  -- while the seat with the ticket served waits, nobody has the turn
  nobody_before : (s : State (Option T) (SeatView F)) (rule : IsTicketLock stands key s) (id : ℕ) (v : SeatView F) → get_elem? s.views id ≡ some v
      → HasTicket v.stage rule.account.now_serving → has_turn v.stage ≡ false → NobodyHasTurn s.views
  nobody_before s rule id v at next waits j u at_j turn =
      let a : Account = rule.account in
      let served = served_of_fits key a j u (turn_of_fits key a j u u.frame (rule.views_fit j u at_j) turn) turn in
      let same = rule.tickets_differ j id a.now_serving u v at_j at served next in
      let is : u ≡ v = some-injective u v (sym at_j ∙ (ap (get_elem? s.views) same ∙ at)) in
      true≢false (sym turn ∙ (ap (λ (z : SeatView F). has_turn z.stage) is ∙ waits))

  -- A look: where the word is the seat's ticket, the seat gets the turn, and with it the slot and the whole order
  pub look_keeps_rule : (slots id : ℕ) (me : Me (Option T) (SeatView F)) (frame : F) → me.0.stage ≡ Waiting (ticket_of me.0.stage) → me.0.frame ≡ Some frame
      → Allows (IsTicketLock stands key) slots id me 1 (λ n. n) (LooksForTurn stands (step slots 1 0 0 none) me)
  look_keeps_rule slots id me frame waits framed s rule _ at small =
      let v : SeatView F = me.0 in
      let a : Account = rule.account in
      let ticket : ℕ = ticket_of v.stage in
      let word : ℕ = get_or s.words 1 0 in
      let word_is : word ≡ a.now_serving % 18446744073709551616 = rule.serving_word in
      let mine = fits_of_framed key a id v frame framed (rule.views_fit id v at) in
      let out : (a.now_serving ≤ ticket) × (ticket < a.next_ticket) = subst (IsInLine a v.seen) waits mine.in_line in
      let low = out.0 in
      let high = out.1 in
      let held = rule.tickets_are_held in
      let few = tickets_out-le s.views in
      let views = rule.has_a_view_each in
      let seats = rule.at_most_its_seats in
      let eight = rule.at_most_eight in
      let two = rule.has_two_words in dite (ℕ_discrete word (ticket % 18446744073709551616))
      (λ served.
      let same : a.now_serving ≡ ticket = one_turn a.now_serving ticket 18446744073709551616 low (omega arith) (sym word_is ∙ served) in
      let has : (t : ℕ) → ticket ≡ t → HasTicket v.stage t = (λ t e. subst (λ (z : Stage). HasTicket z t) (sym waits) e) in
      let home = rule.value_is_home (nobody_before s rule id v at (has a.now_serving (sym same)) (ap has_turn waits)) in
      let x : T = home.0 in
      let w : SeatView F = view_with v a.order (InTurn ticket) in
      let had_one : ticket_count v.stage ≡ 1 = ap ticket_count waits in
      let sum = tickets_out-set s.views id v w at in (
        w,
        takes 0 (Some x),
        home.1,
        record {
          account = a;
          has_two_words = length-set s.words 1 word ∙ rule.has_two_words;
          has_one_slot = length-set s.homes 0 none ∙ rule.has_one_slot;
          has_a_view_each = length-set s.views id w ∙ rule.has_a_view_each;
          at_most_its_seats = rule.at_most_its_seats;
          at_most_eight = rule.at_most_eight;
          first_not_joined = rule.first_not_joined;
          ticket_word = get_or-set_other s.words 1 0 word 0 (λ e. omega arith) ∙ rule.ticket_word;
          serving_word = get_or-set_same s.words 1 word 0 (omega arith) ∙ word_is;
          tickets_are_held = omega arith;
          tickets_differ = tickets_differ_set s.views id w rule.tickets_differ (λ j t u other at_j has_mine has_j. other (sym (rule.tickets_differ id j t v u at at_j (has t has_mine) has_j)));
          views_fit = each_set (λ j u. FitsOrIsSpent key a j u u.frame) s.views id w
              (framed_of_fits key a id w record {
                number = mine.number;
                frame = mine.frame;
                not_joined = mine.not_joined;
                seen = knows_whole id a.order;
                in_line = (sym same, high, refl);
                knows_others = λ first. let knows = mine.knows_others first in record { count = knows.count; joined = knows.joined; orders = knows.orders };
              })
              (λ j u _ at_j. rule.views_fit j u at_j);
          entries_are_of_seats = rule.entries_are_of_seats;
          value_is_home = λ nobody. absurd (nobody id w (set_here s.views id w (at_below s.views id v at)) refl);
        },
        (
          (λ _. record {
            order = a.order;
            value = x;
            frame = key.frame;
            turn = refl;
            known = subst (λ (n : ℕ). KnowsOwnEntries n v.seen a.order) (sym mine.number) mine.seen;
            frame_is = mine.frame;
            value_stands = home.2;
          }),
          (λ other. absurd (other served)),
        ),
      ))
      (λ other. (v, keeps, tt, unchanged s rule 1 id me at, ((λ served. absurd (other served)), (λ _. refl))))
