-- Counts and filters of lists, and what stands in a list after one of its places is set.
use Rattle.std.proofs.Common.{◌≡◌, ℕ, zero, suc, ◌+◌, ◌≢◌, ◌⊎◌, inl, inr, Bool, true, false, not, cond, List, [], ◌∷◌, ◌++◌, filter, set, slice_get, Some, true≢false, refl, sym, ap, ◌∙◌, arith}
use Rattle.std.specs.List.{count_by}
use Rattle.std.proofs.lemmas.List.Sums.{sum_by-cons, sum_by-append}

-- 1 where a test is passed
abbrev pub bit : Bool → ℕ
bit b = cond b 1 0

module _ {X : Type 0} (p : X → Bool) where
  pub count-cons : (x : X) (xs : List X) → count_by p (x ∷ xs) ≡ bit (p x) + count_by p xs
  count-cons x xs = sum_by-cons (λ y. cond (p y) 1 0) x xs

  pub count-append : (xs ys : List X) → count_by p (xs ++ ys) ≡ count_by p xs + count_by p ys
  count-append xs ys = sum_by-append (λ y. cond (p y) 1 0) xs ys

  -- one item more at the end
  pub count-push : (xs : List X) (x : X) → count_by p (xs ++ x ∷ []) ≡ count_by p xs + bit (p x)
  count-push xs x = let all = count-append xs (x ∷ []) in let one = count-cons x [] in omega arith

  -- an item is with those that pass a test or with the others
  split_one : (b : Bool) (x : X) (xs ys : List X)
      → count_by p (cond (not b) (x ∷ xs) xs) + count_by p (cond b (x ∷ ys) ys) ≡ bit (p x) + (count_by p xs + count_by p ys)
  split_one true x xs ys = let one = count-cons x ys in omega arith
  split_one false x xs ys = let one = count-cons x xs in omega arith

  -- those that pass a test and the others are all
  pub count-split : (q : X → Bool) (xs : List X) → count_by p (filter (λ x. not (q x)) xs) + count_by p (filter q xs) ≡ count_by p xs
  count-split q [] = refl
  count-split q (x ∷ xs) =
      let rest = count-split q xs in
      let one = count-cons x xs in
      let split = split_one (q x) x (filter (λ y. not (q y)) xs) (filter q xs) in
      omega arith

  -- items that another test doesn't pass stay where those that it passes are left out
  module _ (q : X → Bool) (apart : (x : X) → p x ≡ true → q x ≡ false) where
    kept_one : (x : X) (xs : List X) (a b : Bool) → p x ≡ a → q x ≡ b → filter p (cond (not b) (x ∷ xs) xs) ≡ cond a (x ∷ filter p xs) (filter p xs)
    kept_one x xs true true passes also = absurd (true≢false (sym also ∙ apart x passes))
    kept_one x xs false true fails also = refl
    kept_one x xs a false is also = rw is refl

    pub filter-kept : (xs : List X) → filter p (filter (λ x. not (q x)) xs) ≡ filter p xs
    filter-kept [] = refl
    filter-kept (x ∷ xs) =
        kept_one x (filter (λ y. not (q y)) xs) (p x) (q x) refl refl ∙ ap (λ ys. cond (p x) (x ∷ ys) ys) (filter-kept xs)

  none_one : (x : X) (xs : List X) (a : Bool) → p x ≡ a → filter p (cond (not a) (x ∷ xs) xs) ≡ filter p xs
  none_one x xs true passes = refl
  none_one x xs false fails = rw fails refl

  -- none that passes is left among those that don't
  pub filter-none : (xs : List X) → filter p (filter (λ x. not (p x)) xs) ≡ []
  filter-none [] = refl
  filter-none (x ∷ xs) = none_one x (filter (λ y. not (p y)) xs) (p x) refl ∙ filter-none xs

pub some-is : {X : Type 0} {x y : X} → Some x ≡ Some y → x ≡ y
some-is e = cc e

-- What stands in a list after one of its places is set: the new item at that place, and at others what stood there.
pub get-set : {X : Type 0} (xs : List X) (i j : ℕ) (x y : X) → slice_get (set xs i x) j ≡ Some y → ((j ≡ i) × (x ≡ y)) ⊎ ((j ≢ i) × (slice_get xs j ≡ Some y))
get-set [] i j x y e = absurd (cc e)
get-set (z ∷ xs) zero zero x y e = inl (refl, some-is e)
get-set (z ∷ xs) zero (suc j) x y e = inr ((λ p. absurd (omega arith)), e)
get-set (z ∷ xs) (suc i) zero x y e = inr ((λ p. absurd (omega arith)), e)
get-set (z ∷ xs) (suc i) (suc j) x y e = next (get-set xs i j x y e)
  where
    next : ((j ≡ i) × (x ≡ y)) ⊎ ((j ≢ i) × (slice_get xs j ≡ Some y)) → ((suc j ≡ suc i) × (x ≡ y)) ⊎ ((suc j ≢ suc i) × (slice_get xs j ≡ Some y))
    next (inl p) = inl (ap suc p.0, p.1)
    next (inr p) = inr ((λ q. p.0 (omega arith)), p.1)
