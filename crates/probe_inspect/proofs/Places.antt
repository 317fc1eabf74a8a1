-- How many places there are before a step.
use Rattle.std.proofs.Common.{◌≡◌, ◌⊎◌, inl, inr, ℕ, zero, suc, ◌+◌, ◌<◌, ◌≤◌, List, length, refl, ap, ◌∙◌, arith, add-one, [], ◌∷◌, ◌++◌, slice_get, Option, Some, sym}
use Rattle.std.proofs.lemmas.Bool.{cases_lt}
use Rattle.isa_model.specs.declared.latch.Latch.{Latch}
use Rattle.probe_inspect.specs.Course.{latches_of, latches_in, places_before}
use Rattle.probe_inspect.specs.declared.course.Passed.{Passed}

module _ (latches : ℕ → List Latch) where
  pub places-none : places_before latches 0 ≡ 0
  unfolding places_before
  places-none = refl

  pub places-suc : (n : ℕ) → places_before latches (suc n) ≡ places_before latches n + length (latches n)
  unfolding places_before
  places-suc n = refl

  pub places-more : (n : ℕ) → places_before latches (n + 1) ≡ places_before latches n + length (latches n)
  places-more n = ap (places_before latches) (add-one n) ∙ places-suc n

  -- a place of a step is before the end of a later one
  pub place-low : (n k m : ℕ) → n < m → k < length (latches n) → places_before latches n + k < places_before latches m
  place-low n k zero low under = absurd (omega (arith, low))
  place-low n k (suc m) low under = go (cases_lt n m) (place-low n k m)
    where
      go : (n < m) ⊎ (m ≤ n) → (n < m → k < length (latches n) → places_before latches n + k < places_before latches m)
          → places_before latches n + k < places_before latches (suc m)
      go (inl less) rest =
          let before = rest less under in
          let more = places-suc m in
          omega (arith, before, more)
      go (inr past) rest =
          let same : n ≡ m = omega (arith, low, past) in
          let at = ap (places_before latches) same in
          let long = ap (λ j. length (latches j)) same in
          let more = places-suc m in
          omega (arith, at, long, more, under)

-- The places of steps to which one is added.
get-before : (steps : List Passed) (p : Passed) (m : ℕ) → m < length steps → slice_get (steps ++ p ∷ []) m ≡ slice_get steps m
get-before [] p m low = absurd (omega (arith, low))
get-before (q ∷ steps) p zero low = refl
get-before (q ∷ steps) p (suc m) low = get-before steps p m (omega (arith, low))

get-last : (steps : List Passed) (p : Passed) → slice_get (steps ++ p ∷ []) (length steps) ≡ Some p
get-last [] p = refl
get-last (q ∷ steps) p = get-last steps p

places-alike : (f g : ℕ → List Latch) (n : ℕ) → ((m : ℕ) → m < n → f m ≡ g m) → places_before f n ≡ places_before g n
places-alike f g zero same = places-none f ∙ sym (places-none g)
places-alike f g (suc n) same =
    let before = places-alike f g n (λ m low. same m (omega arith)) in
    let here = ap (λ (ls : List Latch). length ls) (same n (omega arith)) in
    let one = places-suc f n in
    let two = places-suc g n in
    omega (arith, before, here, one, two)

pub places-push : (steps : List Passed) (p : Passed)
    → places_before (latches_in (steps ++ p ∷ [])) (length steps + 1) ≡ places_before (latches_in steps) (length steps) + length p.latches
places-push steps p =
    let more = places-more (latches_in (steps ++ p ∷ [])) (length steps) in
    let before = places-alike (latches_in (steps ++ p ∷ [])) (latches_in steps) (length steps) (λ m low. ap latches_of (get-before steps p m low)) in
    let last = ap (λ (o : Option Passed). length (latches_of o)) (get-last steps p) in
    omega (arith, more, before, last)
