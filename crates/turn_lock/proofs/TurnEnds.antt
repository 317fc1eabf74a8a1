-- The end of a turn keeps the rule, with an entry and without.
use Rattle.std.proofs.Common.{◌≡◌, ℕ, ◌+◌, ◌%◌, ◌^◌, ◌≢◌, true, List, [], ◌∷◌, ◌++◌, length, get_or, set, sym, refl, ap, ◌∙◌, subst, arith, length-set, get_or-set_other, get_or-set_same, append-nil, Option, Some}
use mathlib.Core.Option.{none, some}
use lib.ListN.{get_elem?}
use Rattle.atomic_table.specs.Table.{Me, step, gives, put_back, Allows}
use Rattle.atomic_table.proofs.Lists.{set_here}
use Rattle.turn_lock.specs.declared.seat_view.SeatView.{SeatView}
use Rattle.turn_lock.specs.declared.seat_view.Stage.TheVariants.{Idle}
use Rattle.turn_lock.specs.declared.rule.LockKey.{LockKey}
use Rattle.turn_lock.specs.Order.{entries_of, KnowsOwnEntries}
use Rattle.turn_lock.specs.Stage.{has_turn}
use Rattle.turn_lock.specs.SeatView.{view_with}
use Rattle.turn_lock.specs.Rule.{Account, FitsOrIsSpent, IsTicketLock}
use Rattle.turn_lock.specs.Plays.{EndsTurn, EndsWithEntry, EndsWithoutEntry}
use Rattle.turn_lock.proofs.Entries.{entries_of-append, entries_of_other, knows_whole, knows_longer}
use Rattle.turn_lock.proofs.Accounts.{after_turn}
use Rattle.turn_lock.proofs.Places.{at_below, each_set}
use Rattle.turn_lock.proofs.Line.{turn_is_served, tickets_out-set, tickets_differ_set}
use Rattle.turn_lock.proofs.Fits.{fits_of_framed, framed_of_fits, fits_after_turn}

module _ {T F : Type 0} (stands : T → F → List ℕ → Type 0) (key : LockKey F) where
  -- the end of a turn that made these entries: the value is home again, and stands for the longer order
  end_keeps_rule : (slots id : ℕ) (me : Me (Option T) (SeatView F)) (entries : List ℕ) (x : T) → has_turn me.0.stage ≡ true → me.0.frame ≡ Some key.frame → me.1 ≡ (0, Some x) ∷ []
      → stands x key.frame (me.0.seen ++ entries) → ((n : ℕ) → n ≢ me.0.number → entries_of n entries ≡ 0)
      → Allows (IsTicketLock stands key) slots id me 1 (λ n. (n + 1) % 2 ^ 64) (EndsTurn entries (step slots 1 1 0 none) me)
  end_keeps_rule slots id me entries x turn framed holds right own s rule _ at small =
      let v : SeatView F = me.0 in
      let a : Account = rule.account in
      let a' : Account = after_turn a entries in
      let word : ℕ = get_or s.words 1 0 in
      let word_is : word ≡ a.now_serving % 18446744073709551616 = rule.serving_word in
      let next : (word + 1) % 18446744073709551616 ≡ (a.now_serving + 1) % 18446744073709551616 = omega arith in
      let mine = fits_of_framed key a id v key.frame framed (rule.views_fit id v at) in
      let now = turn_is_served a v.seen v.stage mine.in_line turn in
      let w : SeatView F = view_with v (v.seen ++ entries) Idle in
      let had_one = now.counted in
      let sum = tickets_out-set s.views id v w at in
      let held = rule.tickets_are_held in
      let two = rule.has_two_words in
      let one = rule.has_one_slot in
      let inside = at_below s.views id v at in
      let views = rule.has_a_view_each in
      let own_of : (n : ℕ) → n ≢ id → entries_of n entries ≡ 0 = (λ n other. own n (λ e. other (e ∙ mine.number))) in
      let homes : put_back s.homes me.1 ≡ set s.homes 0 (some (Some x)) = ap (put_back s.homes) holds in (
        w,
        gives,
        tt,
        record {
          account = a';
          has_two_words = length-set s.words 1 ((word + 1) % 2 ^ 64) ∙ rule.has_two_words;
          has_one_slot = ap length homes ∙ (length-set s.homes 0 (some (Some x)) ∙ rule.has_one_slot);
          has_a_view_each = length-set s.views id w ∙ rule.has_a_view_each;
          at_most_its_seats = rule.at_most_its_seats;
          at_most_eight = rule.at_most_eight;
          first_not_joined = rule.first_not_joined;
          ticket_word = get_or-set_other s.words 1 0 ((word + 1) % 2 ^ 64) 0 (λ e. omega arith) ∙ rule.ticket_word;
          serving_word = get_or-set_same s.words 1 ((word + 1) % 2 ^ 64) 0 (omega arith) ∙ next;
          tickets_are_held = omega arith;
          tickets_differ = tickets_differ_set s.views id w rule.tickets_differ (λ j t u other at_j has_mine has_j. absurd has_mine);
          views_fit = each_set (λ j u. FitsOrIsSpent key a' j u u.frame) s.views id w
              (framed_of_fits key a' id w record {
                number = mine.number;
                frame = mine.frame;
                not_joined = mine.not_joined;
                seen = subst (λ (z : List ℕ). KnowsOwnEntries id (z ++ entries) (a.order ++ entries)) (sym now.seen_whole) (knows_whole id (a.order ++ entries));
                in_line = tt;
                knows_others = λ first. let knows = mine.knows_others first in record {
                  count = knows.count;
                  joined = knows.joined;
                  orders = λ i seen at_i. knows_longer (i + 1) seen a.order entries (own_of (i + 1) (λ same. omega arith)) (knows.orders i seen at_i);
                };
              })
              (λ j u other at_j. fits_after_turn key a j u entries id own_of mine.not_joined other
              (λ has. other (rule.tickets_differ j id a.now_serving u v at_j at has now.ticket)) u.frame (rule.views_fit j u at_j));
          entries_are_of_seats = λ n past. let longer = entries_of-append n a.order entries in let before = rule.entries_are_of_seats n past in let none = own_of n (λ e. omega arith) in omega arith;
          value_is_home = λ _. (
            x,
            ap (λ h. get_elem? h 0) homes ∙ set_here s.homes 0 (some (Some x)) (omega arith),
            subst (λ (z : List ℕ). stands x key.frame (z ++ entries)) now.seen_whole right,
          );
        },
        refl,
      )

  -- The end of a turn with an entry: the order grows by the seat's number
  pub end_with_entry_keeps_rule : (slots id : ℕ) (me : Me (Option T) (SeatView F)) (x : T) → has_turn me.0.stage ≡ true → me.0.frame ≡ Some key.frame → me.1 ≡ (0, Some x) ∷ []
      → stands x key.frame (me.0.seen ++ me.0.number ∷ []) → Allows (IsTicketLock stands key) slots id me 1 (λ n. (n + 1) % 2 ^ 64) (EndsWithEntry (step slots 1 1 0 none) me)
  end_with_entry_keeps_rule slots id me x turn framed holds right =
      end_keeps_rule slots id me (me.0.number ∷ []) x turn framed holds right (λ n other. entries_of_other n me.0.number (λ e. other (sym e)))

  -- The end of a turn without an entry: the order stays
  pub end_without_entry_keeps_rule : (slots id : ℕ) (me : Me (Option T) (SeatView F)) (x : T) → has_turn me.0.stage ≡ true → me.0.frame ≡ Some key.frame → me.1 ≡ (0, Some x) ∷ []
      → stands x key.frame me.0.seen → Allows (IsTicketLock stands key) slots id me 1 (λ n. (n + 1) % 2 ^ 64) (EndsWithoutEntry (step slots 1 1 0 none) me)
  end_without_entry_keeps_rule slots id me x turn framed holds right =
      end_keeps_rule slots id me [] x turn framed holds (subst (stands x key.frame) (sym (append-nil me.0.seen)) right) (λ n other. refl)
