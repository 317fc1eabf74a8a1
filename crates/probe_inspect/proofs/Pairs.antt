-- Pairs by their order, and lists of changes in another order.
use Rattle.std.proofs.Common.{◌≡◌, ◌⊎◌, inl, inr, ℕ, ◌+◌, ◌<◌, ◌≤◌, ◌==◌, ◌&&◌, Bool, true, cond, List, length, get_or, slice_get, Some, subst, refl, ap, sym, ◌∙◌, arith, eq-eqb, IsPermutation}
use Rattle.std.specs.Ordering.{nat_cmp, ordering_then, is_lt, is_eq}
use Rattle.std.specs.declared.cmp.Ordering.{Ordering}
use Rattle.std.specs.declared.cmp.Ordering.TheVariants.{Less, Equal, Greater}
use Rattle.std.proofs.lemmas.Option.{same_Some}
use Rattle.std.proofs.lemmas.Bool.{cases_order, cases_lt, lt-ltb, le-ltb, ne_eqb}
use Rattle.std.proofs.lemmas.List.{length-map}
use Rattle.std.proofs.lemmas.List.Sorted.{sum_by-IsPermutation, length_permutation}
use Rattle.isa_model.specs.Limits.{max_worlds}
use Rattle.core_model.specs.Security.{same_pair}
use Rattle.count_differences.specs.Differences.{how_often, IsLeastDifference}
use Rattle.probing_laws.specs.Verdicts.{IsLess}
use Rattle.probing_laws.proofs.Counts.{count-agree}
use Rattle.probing_laws.proofs.Transfers.{item-has}
use Rattle.probe_inspect.specs.PairOrder.{pair_cmp}
use Rattle.probe_inspect.specs.Columns.{count_same, changes_of, often_in, change_in, IsDifferenceOf, IsLikeFirst, AreGroupsOf}
use Rattle.probe_inspect.specs.Groups.{AsManyAs}
use Rattle.probe_inspect.specs.declared.groups.Group.{Group}
use Rattle.probe_inspect.specs.declared.rows.Row.{Row}
use Rattle.probe_inspect.specs.declared.columns.Difference.{Difference}

nat-equal : (x y : ℕ) → is_eq (nat_cmp x y) ≡ (x == y)
nat-equal x y = go (cases_order x y)
  where
    go : (x ≡ y) ⊎ ((x < y) ⊎ (y < x)) → is_eq (nat_cmp x y) ≡ (x == y)
    go (inl same) = rw (le-ltb x y (omega (arith, same))) (rw (eq-eqb x y same) refl)
    go (inr (inl low)) = rw (lt-ltb x y low) (sym (ne_eqb x y (λ is. absurd (omega (arith, low, is)))))
    go (inr (inr up)) = rw (le-ltb x y (omega (arith, up))) (rw (ne_eqb x y (λ is. absurd (omega (arith, up, is)))) refl)

pub then-equal : (o p : Ordering) → is_eq (ordering_then o p) ≡ (is_eq o && is_eq p)
then-equal o p = elim o as (λ v. is_eq (ordering_then v p) ≡ (is_eq v && is_eq p)) [ Less ↦ refl | Equal ↦ refl | Greater ↦ refl ]

-- pairs tie where they are the same
pub pair-equal : (x z : ℕ × ℕ) → is_eq (pair_cmp x z) ≡ same_pair x z
pair-equal x z =
    then-equal (nat_cmp x.0 z.0) (nat_cmp x.1 z.1)
    ∙ ap (λ (b : Bool). b && is_eq (nat_cmp x.1 z.1)) (nat-equal x.0 z.0)
    ∙ ap (λ (b : Bool). (x.0 == z.0) && b) (nat-equal x.1 z.1)

pub often-same : (z : ℕ × ℕ) (xs : List (ℕ × ℕ)) → how_often pair_cmp z xs ≡ count_same xs z
often-same z xs =
    count-agree (λ (x : ℕ × ℕ). is_eq (pair_cmp x z)) (λ (x : ℕ × ℕ). same_pair x z) xs (λ i d low. pair-equal (get_or xs i d) z)

pub less-pair : (z w : ℕ × ℕ) → IsLess z w → is_lt (pair_cmp z w) ≡ true
less-pair z w (inl low) = rw (lt-ltb z.0 w.0 low) refl
less-pair z w (inr (same, low)) =
    rw (le-ltb z.0 w.0 (omega (arith, same))) (rw (eq-eqb z.0 w.0 same) (rw (lt-ltb z.1 w.1 low) refl))

-- the least change that two lists have in different numbers
pub difference-is : (first other : List (ℕ × ℕ)) (d : Difference) → IsLeastDifference pair_cmp first other d.change
    → d.count_first ≡ count_same first d.change → d.count_other ≡ count_same other d.change → IsDifferenceOf first other d.secret d
difference-is first other d is count_first count_other = record {
  is_secret = refl;
  count_first = count_first;
  count_other = count_other;
  differ = λ same. is.differs (often-same d.change first ∙ sym count_first ∙ same ∙ count_other ∙ sym (often-same d.change other));
  lesser = λ z less. sym (often-same z other) ∙ sym (is.lesser z (less-pair z d.change less)) ∙ often-same z first;
}

pub gathered-length : (rows : List Row) (at : ℕ) (members : List ℕ) (xs : List (ℕ × ℕ)) → IsPermutation (changes_of rows at members) xs
    → length xs ≡ length members
gathered-length rows at members xs moved =
    length_permutation (changes_of rows at members) xs moved ∙ length-map members (λ i. change_in at (slice_get rows i))

pub gathered-count : (changes xs : List (ℕ × ℕ)) → IsPermutation changes xs → (z : ℕ × ℕ) → count_same xs z ≡ count_same changes z
gathered-count changes xs moved z = sum_by-IsPermutation (λ (x : ℕ × ℕ). cond (same_pair x z) 1 0) changes xs moved

-- a difference of lists in another order
pub gathered-difference : (first other us vs : List (ℕ × ℕ)) (secret : ℕ) (d : Difference) → IsPermutation first us → IsPermutation other vs
    → IsDifferenceOf us vs secret d → IsDifferenceOf first other secret d
gathered-difference first other us vs secret d one two is = record {
  is_secret = is.is_secret;
  count_first = is.count_first ∙ gathered-count first us one d.change;
  count_other = is.count_other ∙ gathered-count other vs two d.change;
  differ = is.differ;
  lesser = λ z less. sym (gathered-count other vs two z) ∙ is.lesser z less ∙ gathered-count first us one z;
}

-- the same of lists that are these
pub moved-as : (rows : List Row) (at : ℕ) (ms members : List ℕ) (xs ys : List (ℕ × ℕ)) → ms ≡ members → ys ≡ xs → IsPermutation (changes_of rows at ms) xs
    → IsPermutation (changes_of rows at members) ys
moved-as rows at ms members xs ys same is moved =
    subst (λ (zs : List (ℕ × ℕ)). IsPermutation (changes_of rows at members) zs) (sym is)
    (subst (λ (ks : List ℕ). IsPermutation (changes_of rows at ks) xs) same moved)

module _ (groups : List Group) (rows : List Row) (are : AreGroupsOf groups rows) where
  pub group-even : (j : ℕ) (h g : Group) → slice_get groups j ≡ Some h → slice_get groups 0 ≡ Some g → length h.members ≡ length g.members
  group-even j h g there first = item-has (AsManyAs groups) groups j h there are.even g first

  pub group-few : (j : ℕ) (g : Group) → slice_get groups j ≡ Some g → length g.members ≤ max_worlds
  group-few j g there = item-has (λ (h : Group). length h.members ≤ max_worlds) groups j g there are.few

-- groups that are like the first one up to a place, and the one at it
pub alike-more : (groups : List Group) (rows : List Row) (at j : ℕ) (group g0 : Group) → slice_get groups j ≡ Some group → slice_get groups 0 ≡ Some g0
    → ((i : ℕ) (h : Group) → i < j → slice_get groups i ≡ Some h → IsLikeFirst groups rows at h)
    → ((z : ℕ × ℕ) → often_in rows at group z ≡ often_in rows at g0 z)
    → (i : ℕ) (h : Group) → i < j + 1 → slice_get groups i ≡ Some h → IsLikeFirst groups rows at h
alike-more groups rows at j group g0 there first before here i h low is g also z = go (cases_lt i j)
  where
    go : (i < j) ⊎ (j ≤ i) → often_in rows at h z ≡ often_in rows at g z
    go (inl less) = before i h less is g also z
    go (inr past) =
        let same : j ≡ i = omega (arith, low, past) in
        let one : group ≡ h = same_Some group h (sym there ∙ ap (λ k. slice_get groups k) same ∙ is) in
        let two : g0 ≡ g = same_Some g0 g (sym first ∙ also) in
        ap (λ (k : Group). often_in rows at k z) (sym one) ∙ here z ∙ ap (λ (k : Group). often_in rows at k z) two
