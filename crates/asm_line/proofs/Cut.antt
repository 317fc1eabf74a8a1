-- A text is cut at the first byte that passes.
use Rattle.std.proofs.Common.{◌≡◌, ℕ, zero, suc, ◌+◌, ◌<◌, Bool, true, false, ◌||◌, List, [], ◌∷◌, length, take, drop, get_or, refl, ap, ◌∙◌, arith}
use Rattle.std.specs.List.{slice_split, onto_first, position_or_len, list_any}
use Rattle.std.proofs.lemmas.List.Splits.{slice_split-cons_yes, slice_split-cons_no}
use Rattle.std.proofs.lemmas.List.Sums.{position_or_len_is}

-- no byte before this one passes
abbrev pub NoneBefore : (ℕ → Bool) → List ℕ → ℕ → Type 0
NoneBefore p xs i = (k : ℕ) → k < i → p (get_or xs k 0) ≡ false

pub split_none : (p : ℕ → Bool) (xs : List ℕ) → NoneBefore p xs (length xs) → slice_split p xs ≡ xs ∷ []
split_none p [] h = refl
split_none p (x ∷ xs) h =
    slice_split-cons_no p x xs (h 0 (omega arith)) ∙ ap (λ l. onto_first x l) (split_none p xs (λ k lt. h (suc k) (omega arith)))

split_here : (p : ℕ → Bool) (xs : List ℕ) (i : ℕ) → i < length xs → p (get_or xs i 0) ≡ true → NoneBefore p xs i
    → slice_split p xs ≡ take i xs ∷ slice_split p (drop (suc i) xs)
split_here p [] i lt hit miss = absurd (omega arith)
split_here p (x ∷ xs) zero lt hit miss = slice_split-cons_yes p x xs hit
split_here p (x ∷ xs) (suc i) lt hit miss =
    slice_split-cons_no p x xs (miss 0 (omega arith)) ∙ ap (λ l. onto_first x l) (split_here p xs i (omega arith) hit (λ k h. miss (suc k) (omega arith)))

pub split_some : (p : ℕ → Bool) (xs : List ℕ) (i : ℕ) → i < length xs → p (get_or xs i 0) ≡ true → NoneBefore p xs i
    → slice_split p xs ≡ take i xs ∷ slice_split p (drop (i + 1) xs)
split_some p xs i lt hit miss = split_here p xs i lt hit miss ∙ ap (λ n. take i xs ∷ slice_split p (drop n xs)) (let e : suc i ≡ i + 1 = omega arith in e)

pub place_some : (p : ℕ → Bool) (xs : List ℕ) (i : ℕ) → i < length xs → p (get_or xs i 0) ≡ true → NoneBefore p xs i → position_or_len p xs ≡ i
place_some p xs i lt hit miss = position_or_len_is p xs i 0 (omega arith) miss (λ h. hit)

pub place_none : (p : ℕ → Bool) (xs : List ℕ) → NoneBefore p xs (length xs) → position_or_len p xs ≡ length xs
place_none p xs miss = position_or_len_is p xs (length xs) 0 (omega arith) miss (λ h. absurd (omega arith))

pub any_some : (p : ℕ → Bool) (xs : List ℕ) (i : ℕ) → i < length xs → p (get_or xs i 0) ≡ true → list_any p xs ≡ true
any_some p [] i lt hit = absurd (omega arith)
any_some p (x ∷ xs) zero lt hit = rw hit refl
any_some p (x ∷ xs) (suc i) lt hit = or_right (p x) (list_any p xs) (any_some p xs i (omega arith) hit)
  where
    or_right : (a b : Bool) → b ≡ true → (a || b) ≡ true
    or_right true b h = refl
    or_right false b h = h

pub any_none : (p : ℕ → Bool) (xs : List ℕ) → NoneBefore p xs (length xs) → list_any p xs ≡ false
any_none p [] miss = refl
any_none p (x ∷ xs) miss = rw (miss 0 (omega arith)) (any_none p xs (λ k lt. miss (suc k) (omega arith)))
