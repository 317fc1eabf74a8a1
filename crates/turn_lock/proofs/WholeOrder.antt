-- The longest of the orders that the seats have seen is the whole order.
use Rattle.std.proofs.Common.{◌≡◌, ℕ, zero, suc, ◌+◌, ◌≤◌, ◌<◌, ◌⊎◌, List, [], ◌∷◌, ◌++◌, length, sym, refl, ap, ◌∙◌, subst, ⊎_elim, inl, inr, arith, append_assoc, append-nil, lt_of_not-le}
use mathlib.Core.Option.{some, some-injective}
use lib.ListN.{get_elem?}
use Rattle.turn_lock.specs.Order.{entries_of, KnowsOwnEntries, IsWholeOrder}
use Rattle.turn_lock.specs.Rule.{KnowsJoined}
use Rattle.turn_lock.proofs.Entries.{entries_of-append, entries_of_one}
use Rattle.turn_lock.proofs.Places.{to_slice_get, from_slice_get, at_index_below}

last_or : ℕ → List ℕ → ℕ
last_or d [] = d
last_or d (x ∷ xs) = last_or x xs

last_or-snoc : (d : ℕ) (xs : List ℕ) (x : ℕ) → last_or d (xs ++ x ∷ []) ≡ x
unfolding last_or
last_or-snoc d [] x = refl
last_or-snoc d (y ∷ ys) x = last_or-snoc y ys x

-- a list is empty, or has a last item
nil_or_snoc : (xs : List ℕ) → (xs ≡ []) ⊎ ((ys : List ℕ) × (last : ℕ) × (xs ≡ ys ++ last ∷ []))
nil_or_snoc [] = inl refl
nil_or_snoc (x ∷ xs) = inr
    (⊎_elim (λ nil. ([], x, ap (λ (zs : List ℕ). x ∷ zs) nil)) (λ snoc. (x ∷ snoc.0, snoc.1, ap (λ (zs : List ℕ). x ∷ zs) snoc.2)) (nil_or_snoc xs))

-- who made the last entry of an order has an entry in it
entries_of_last : (number : ℕ) (xs : List ℕ) → 1 ≤ entries_of number (xs ++ number ∷ [])
entries_of_last number xs = let sum = entries_of-append number xs (number ∷ []) in let one = entries_of_one number in omega arith

-- who made the last entry has seen the whole order
last_has_seen_whole : (ys : List ℕ) (number : ℕ) (seen order : List ℕ) → order ≡ ys ++ number ∷ [] → KnowsOwnEntries number seen order → seen ≡ order
last_has_seen_whole ys number seen order ends knows =
    let rest = knows.0.0 in
    let split : seen ++ rest ≡ order = knows.0.1 in
    let sum = entries_of-append number seen rest in
    let same = knows.1 in
    let whole = ap (entries_of number) split in
    let none : entries_of number rest ≡ 0 = omega arith in
    ⊎_elim (λ nil. sym (append-nil seen) ∙ (ap (λ zs. seen ++ zs) (sym nil) ∙ split))
    (λ snoc.
    let zs = snoc.0 in
    let last = snoc.1 in
    let both : ys ++ number ∷ [] ≡ (seen ++ zs) ++ last ∷ [] = sym ends ∙ (sym split ∙ (ap (λ ws. seen ++ ws) snoc.2 ∙ sym (append_assoc seen zs (last ∷ [])))) in
    let same_last : number ≡ last = sym (last_or-snoc 0 ys number) ∙ (ap (last_or 0) both ∙ last_or-snoc 0 (seen ++ zs) last) in
    let some_entry = entries_of_last number zs in
    let in_rest : entries_of number rest ≡ entries_of number (zs ++ number ∷ []) = ap (entries_of number) (snoc.2 ∙ ap (λ k. zs ++ k ∷ []) (sym same_last)) in
    absurd (omega arith))
    (nil_or_snoc rest)

nil_of_append : (xs ys : List ℕ) → xs ++ ys ≡ [] → xs ≡ []
nil_of_append [] ys e = refl
nil_of_append (x ∷ xs) ys e = let lengths = ap length e in absurd (omega arith)

-- where each seat knows its own entries, and no other number has any, the seats know the whole order
pub knows_all : (order : List ℕ) (seens : List (List ℕ)) → 0 < length seens → ((i : ℕ) (seen : List ℕ) → get_elem? seens i ≡ some seen → KnowsOwnEntries i seen order)
    → ((number : ℕ) → length seens ≤ number → entries_of number order ≡ 0) → IsWholeOrder order seens
knows_all order seens some_seat each none = record {
  known = λ i seen at. each i seen (from_slice_get seens i seen at);
  seen_whole = ⊎_elim
      (λ nil. let first = at_index_below seens 0 some_seat in let knows = each 0 first.0 first.1 in
      (0, to_slice_get seens 0 order (first.1 ∙ ap some (nil_of_append first.0 knows.0.0 (knows.0.1 ∙ nil) ∙ sym nil))))
      (λ snoc. let last = snoc.1 in
      let some_entry = entries_of_last last snoc.0 in
      let in_order = ap (entries_of last) snoc.2 in
      let below : last < length seens = lt_of_not-le (λ past. let zero_entries = none last past in omega arith) in
      let his = at_index_below seens last below in
      (last, to_slice_get seens last order (his.1 ∙ ap some (last_has_seen_whole snoc.0 last his.0 order snoc.2 (each last his.0 his.1)))))
      (nil_or_snoc order);
  no_other_entries = none;
}

-- what seat 0 knows after all joins is about all seats
pub knows_joined_all : (seen : List ℕ) (joined : List (List ℕ)) (order : List ℕ) → KnowsOwnEntries 0 seen order → KnowsJoined order joined
    → (i : ℕ) (x : List ℕ) → get_elem? (seen ∷ joined) i ≡ some x → KnowsOwnEntries i x order
knows_joined_all seen joined order first others zero x at = subst (λ (z : List ℕ). KnowsOwnEntries 0 z order) (some-injective seen x at) first
knows_joined_all seen joined order first others (suc i) x at = let one : i + 1 ≡ suc i = omega arith in subst (λ (n : ℕ). KnowsOwnEntries n x order) one (others i x at)
