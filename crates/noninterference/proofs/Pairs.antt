-- Lists that are related place by place.
use Rattle.std.proofs.Common.{◌≡◌, ℕ, zero, suc, Bool, true, false, if◌then◌else◌, List, [], ◌∷◌, ◌++◌, length, filter, take, drop, set, get_or, slice_get, Option, Some, None, refl, ap, subst}
use Rattle.core_model.specs.LowEquivalence.{ArePairwise}

-- both are there and related, or neither is there
abbrev pub AreBothOr : {A : Type 0} → (A → A → Type 0) → Option A → Option A → Type 0
AreBothOr R None None = Unit {0}
AreBothOr R (Some x) (Some y) = R x y
AreBothOr R x y = ⊥

module _ {A : Type 0} (R : A → A → Type 0) where
  -- as many on both sides
  pub pairwise-length : (xs ys : List A) → ArePairwise R xs ys → length xs ≡ length ys
  pairwise-length [] [] both = refl
  pairwise-length [] (y ∷ ys) both = absurd both
  pairwise-length (x ∷ xs) [] both = absurd both
  pairwise-length (x ∷ xs) (y ∷ ys) both = ap suc (pairwise-length xs ys both.1)

  -- one after the other
  pub pairwise-append : (xs ys vs ws : List A) → ArePairwise R xs ys → ArePairwise R vs ws → ArePairwise R (xs ++ vs) (ys ++ ws)
  pairwise-append [] [] vs ws both further = further
  pairwise-append [] (y ∷ ys) vs ws both further = absurd both
  pairwise-append (x ∷ xs) [] vs ws both further = absurd both
  pairwise-append (x ∷ xs) (y ∷ ys) vs ws both further = (both.0, pairwise-append xs ys vs ws both.1 further)

  -- one more at the end
  pub pairwise-push : (xs ys : List A) (x y : A) → ArePairwise R xs ys → R x y → ArePairwise R (xs ++ x ∷ []) (ys ++ y ∷ [])
  pairwise-push xs ys x y both one = pairwise-append xs ys (x ∷ []) (y ∷ []) both (one, tt)

  -- with a place set on both sides
  pub pairwise-set : (xs ys : List A) (i : ℕ) (x y : A) → ArePairwise R xs ys → R x y → ArePairwise R (set xs i x) (set ys i y)
  pairwise-set [] [] i x y both one = tt
  pairwise-set [] (w ∷ ys) i x y both one = absurd both
  pairwise-set (v ∷ xs) [] i x y both one = absurd both
  pairwise-set (v ∷ xs) (w ∷ ys) zero x y both one = (one, both.1)
  pairwise-set (v ∷ xs) (w ∷ ys) (suc i) x y both one = (both.0, pairwise-set xs ys i x y both.1 one)

  -- the first ones, and the others
  pub pairwise-take : (n : ℕ) (xs ys : List A) → ArePairwise R xs ys → ArePairwise R (take n xs) (take n ys)
  pairwise-take zero xs ys both = tt
  pairwise-take (suc n) [] [] both = tt
  pairwise-take (suc n) [] (y ∷ ys) both = absurd both
  pairwise-take (suc n) (x ∷ xs) [] both = absurd both
  pairwise-take (suc n) (x ∷ xs) (y ∷ ys) both = (both.0, pairwise-take n xs ys both.1)

  pub pairwise-drop : (n : ℕ) (xs ys : List A) → ArePairwise R xs ys → ArePairwise R (drop n xs) (drop n ys)
  pairwise-drop zero xs ys both = both
  pairwise-drop (suc n) [] [] both = tt
  pairwise-drop (suc n) [] (y ∷ ys) both = absurd both
  pairwise-drop (suc n) (x ∷ xs) [] both = absurd both
  pairwise-drop (suc n) (x ∷ xs) (y ∷ ys) both = pairwise-drop n xs ys both.1

  -- those that pass a test which tells no two that are related apart
  module _ (p : A → Bool) (same : (x y : A) → R x y → p x ≡ p y) where
    filter_one : (test : Bool) (x y : A) (xs ys : List A) → R x y → ArePairwise R xs ys → ArePairwise R (if test then x ∷ xs else xs) (if test then y ∷ ys else ys)
    filter_one true x y xs ys one others = (one, others)
    filter_one false x y xs ys one others = others

    pub pairwise-filter : (xs ys : List A) → ArePairwise R xs ys → ArePairwise R (filter p xs) (filter p ys)
    pairwise-filter [] [] both = tt
    pairwise-filter [] (y ∷ ys) both = absurd both
    pairwise-filter (x ∷ xs) [] both = absurd both
    pairwise-filter (x ∷ xs) (y ∷ ys) both =
        let P : Bool → Type 0 = λ test. ArePairwise R (filter p (x ∷ xs)) (if test then y ∷ filter p ys else filter p ys) in
        subst P (same x y both.0) (filter_one (p x) x y (filter p xs) (filter p ys) both.0 (pairwise-filter xs ys both.1))

  -- a list and itself
  pub pairwise-same : ((x : A) → R x x) → (xs : List A) → ArePairwise R xs xs
  pairwise-same one [] = tt
  pairwise-same one (x ∷ xs) = (one x, pairwise-same one xs)

  -- at each place both are there, or neither
  pub pairwise-at : (xs ys : List A) → ArePairwise R xs ys → (i : ℕ) → AreBothOr R (slice_get xs i) (slice_get ys i)
  pairwise-at [] [] both i = tt
  pairwise-at [] (y ∷ ys) both i = absurd both
  pairwise-at (x ∷ xs) [] both i = absurd both
  pairwise-at (x ∷ xs) (y ∷ ys) both zero = both.0
  pairwise-at (x ∷ xs) (y ∷ ys) both (suc i) = pairwise-at xs ys both.1 i

  -- at each place, with one content past the end
  pub pairwise-get : (past : A) → R past past → (xs ys : List A) → ArePairwise R xs ys → (i : ℕ) → R (get_or xs i past) (get_or ys i past)
  pairwise-get past one [] [] both i = one
  pairwise-get past one [] (y ∷ ys) both i = absurd both
  pairwise-get past one (x ∷ xs) [] both i = absurd both
  pairwise-get past one (x ∷ xs) (y ∷ ys) both zero = both.0
  pairwise-get past one (x ∷ xs) (y ∷ ys) both (suc i) = pairwise-get past one xs ys both.1 i
