-- The places of a course by their numbers.
use Rattle.std.proofs.Common.{◌≡◌, ◌⊎◌, inl, inr, ℕ, zero, suc, ◌+◌, ◌*◌, ◌<◌, ◌≤◌, true, List, [], ◌∷◌, ◌++◌, map, length, length-append, slice_get, Some, refl, ap, sym, ◌∙◌, subst, arith, add-one}
use Rattle.std.proofs.lemmas.Bool.{cases_lt, cases_order, ltb-true}
use Rattle.std.proofs.lemmas.List.{length-map}
use Rattle.std.proofs.lemmas.Option.{same_Some, slice_get_within}
use Rattle.isa_model.specs.declared.latch.Latch.{Latch}
use Rattle.isa_model.specs.LatchOrder.{IsLatch, is_before, latch_rank, IsStrictTotalOrder}
use Rattle.probing_laws.specs.Verdicts.{IsEarlier}
use Rattle.probe_inspect.specs.LatchList.{IsInOrderFrom}
use Rattle.probe_inspect.specs.Course.{places_before}
use Rattle.probe_inspect.proofs.Places.{places-none, places-suc, place-low}
use Rattle.probe_inspect.proofs.Judged.{order-at}
use Rattle.probe_order.specs.Places.{place_of, places_in}
use Rattle.probe_order.specs.declared.places.Place.{Place}

-- an item of two lists one after the other
get-append : {X : Type 0} (xs ys : List X) (z : X) (i : ℕ) → slice_get (xs ++ ys) i ≡ Some z
    → (slice_get xs i ≡ Some z) ⊎ ((j : ℕ) × (i ≡ length xs + j) × (slice_get ys j ≡ Some z))
get-append [] ys z i is = inr (i, omega arith, is)
get-append (x ∷ xs) ys z zero is = inl is
get-append (x ∷ xs) ys z (suc i) is = go (get-append xs ys z i is)
  where
    go : (slice_get xs i ≡ Some z) ⊎ ((j : ℕ) × (i ≡ length xs + j) × (slice_get ys j ≡ Some z))
        → (slice_get xs i ≡ Some z) ⊎ ((j : ℕ) × (suc i ≡ suc (length xs) + j) × (slice_get ys j ≡ Some z))
    go (inl there) = inl there
    go (inr (j, at, there)) = inr (j, omega (arith, at), there)

pub get-left : {X : Type 0} (xs ys : List X) (z : X) (i : ℕ) → slice_get xs i ≡ Some z → slice_get (xs ++ ys) i ≡ Some z
get-left [] ys z i is = absurd cc
get-left (x ∷ xs) ys z zero is = is
get-left (x ∷ xs) ys z (suc i) is = get-left xs ys z i is

pub get-right : {X : Type 0} (xs ys : List X) (z : X) (j : ℕ) → slice_get ys j ≡ Some z → slice_get (xs ++ ys) (length xs + j) ≡ Some z
get-right [] ys z j is = let e : 0 + j ≡ j = omega arith in ap (λ k. slice_get ys k) e ∙ is
get-right (x ∷ xs) ys z j is =
    let e : suc (length xs) + j ≡ suc (length xs + j) = omega arith in ap (λ k. slice_get (x ∷ (xs ++ ys)) k) e ∙ get-right xs ys z j is

-- an item of what a function makes of a list
get-mapped : {X Y : Type 0} (f : X → Y) (xs : List X) (j : ℕ) (z : Y) → slice_get (map f xs) j ≡ Some z → (x : X) × (slice_get xs j ≡ Some x) × (f x ≡ z)
get-mapped f [] j z is = absurd cc
get-mapped f (x ∷ xs) zero z is = (x, refl, same_Some (f x) z is)
get-mapped f (x ∷ xs) (suc j) z is = get-mapped f xs j z is

map-get : {X Y : Type 0} (f : X → Y) (xs : List X) (j : ℕ) (x : X) → slice_get xs j ≡ Some x → slice_get (map f xs) j ≡ Some (f x)
map-get f [] j x is = absurd cc
map-get {X} f (y ∷ xs) zero x is = ap (λ (z : X). Some (f z)) (same_Some y x is)
map-get f (y ∷ xs) (suc j) x is = map-get f xs j x is

-- A place has a number: so many places are before its step, and so many before it in the step.
pub record IsAt (latches : ℕ → List Latch) (N p : ℕ) (place : Place) : Type 0 where
  pub low : place.step < N
  pub index : ℕ
  pub there : slice_get (latches place.step) index ≡ Some place.latch
  pub number : p ≡ places_before latches place.step + index

module _ (latches : ℕ → List Latch) where
  pub in-none : places_in latches 0 ≡ []
  unfolding places_in
  in-none = refl

  in-suc : (n : ℕ) → places_in latches (suc n) ≡ places_in latches n ++ map (place_of n) (latches n)
  unfolding places_in
  in-suc n = refl

  pub in-more : (n : ℕ) → places_in latches (n + 1) ≡ places_in latches n ++ map (place_of n) (latches n)
  in-more n = ap (places_in latches) (add-one n) ∙ in-suc n

  pub in-length : (n : ℕ) → length (places_in latches n) ≡ places_before latches n
  in-length zero = ap (λ (ps : List Place). length ps) in-none ∙ sym (places-none latches)
  in-length (suc n) =
      let long = length-append (places_in latches n) (map (place_of n) (latches n)) in
      let own = length-map (latches n) (place_of n) in
      let before = in-length n in
      let more = places-suc latches n in
      let all = ap (λ (ps : List Place). length ps) (in-suc n) in
      omega (arith, long, own, before, more, all)

  -- where each step has at most 7
  pub in-few : ((n : ℕ) → length (latches n) ≤ 7) → (n : ℕ) → places_before latches n ≤ 7 * n
  in-few few zero = let none = places-none latches in omega (arith, none)
  in-few few (suc n) =
      let before = in-few few n in
      let here = few n in
      let more = places-suc latches n in
      omega (arith, before, here, more)

  -- a latch of a step stands at its number
  pub place-number : (m i N : ℕ) (l : Latch) → m < N → slice_get (latches m) i ≡ Some l
      → slice_get (places_in latches N) (places_before latches m + i) ≡ Some (place_of m l)
  place-number m i zero l low there = absurd (omega (arith, low))
  place-number m i (suc N) l low there = go (cases_lt m N) (place-number m i N l)
    where
      go : (m < N) ⊎ (N ≤ m) → (m < N → slice_get (latches m) i ≡ Some l → slice_get (places_in latches N) (places_before latches m + i) ≡ Some (place_of m l))
          → slice_get (places_in latches (suc N)) (places_before latches m + i) ≡ Some (place_of m l)
      go (inl less) rest =
          ap (λ (ps : List Place). slice_get ps (places_before latches m + i)) (in-suc N)
          ∙ get-left (places_in latches N) (map (place_of N) (latches N)) (place_of m l) (places_before latches m + i) (rest less there)
      go (inr past) rest =
          let same : m ≡ N = omega (arith, low, past) in
          let at : places_before latches m + i ≡ length (places_in latches m) + i = ap (λ k. k + i) (sym (in-length m)) in
          let whole : places_in latches (suc N) ≡ places_in latches m ++ map (place_of m) (latches m) =
          ap (λ k. places_in latches (suc k)) (sym same) ∙ in-suc m in
          ap (λ (ps : List Place). slice_get ps (places_before latches m + i)) whole
          ∙ ap (λ k. slice_get (places_in latches m ++ map (place_of m) (latches m)) k) at
          ∙ get-right (places_in latches m) (map (place_of m) (latches m)) (place_of m l) i (map-get (place_of m) (latches m) i l there)

  -- and what stands at a number is such a latch
  pub place-is : (N p : ℕ) (place : Place) → slice_get (places_in latches N) p ≡ Some place → IsAt latches N p place
  place-is zero p place is =
      let none : slice_get {X = Place} [] p ≡ Some place = ap (λ (ps : List Place). slice_get ps p) (sym in-none) ∙ is in absurd cc
  place-is (suc N) p place is =
      go (get-append (places_in latches N) (map (place_of N) (latches N)) place p (ap (λ (ps : List Place). slice_get ps p) (sym (in-suc N)) ∙ is))
      (place-is N p place)
    where
      go : (slice_get (places_in latches N) p ≡ Some place)
          ⊎ ((j : ℕ) × (p ≡ length (places_in latches N) + j) × (slice_get (map (place_of N) (latches N)) j ≡ Some place))
          → (slice_get (places_in latches N) p ≡ Some place → IsAt latches N p place) → IsAt latches (suc N) p place
      go (inl there) rest =
          let before = rest there in
          let low = before.low in
          record { low = omega (arith, low); index = before.index; there = before.there; number = before.number }
      go (inr (j, at, found)) rest =
          let latch = get-mapped (place_of N) (latches N) j place found in
          let long = in-length N in
          let P : Place → Type 0 = λ q. IsAt latches (suc N) p q in
          let here : IsAt latches (suc N) p (place_of N latch.0) = record { low = omega arith; index = j; there = latch.1; number = omega (arith, at, long) } in
          subst P latch.2 here

  -- Two latches of steps whose latches are in order.
  module _ (n j : ℕ) (k : Latch) (also : slice_get (latches n) j ≡ Some k) (m i : ℕ) (l : Latch) (there : slice_get (latches m) i ≡ Some l) where
    -- the earlier one has the lesser number
    pub number-earlier : IsInOrderFrom 0 (latches n) → IsEarlier m l n k → places_before latches m + i < places_before latches n + j
    number-earlier order (inl low) =
        let before = place-low latches m i n low (slice_get_within (latches m) i l there) in omega (arith, before)
    number-earlier order (inr (same, low)) = go (cases_lt i j)
      where
        here : slice_get (latches n) i ≡ Some l
        here = ap (λ s. slice_get (latches s) i) (sym same) ∙ there

        go : (i < j) ⊎ (j ≤ i) → places_before latches m + i < places_before latches n + j
        go (inl less) = let at = ap (places_before latches) same in omega (arith, at, less)
        go (inr past) = let up = order-at 0 (latches n) j i k l order past also here in absurd (omega (arith, up, low))

    -- and the one of the lesser number is earlier, or they are one
    pub earlier-number : IsStrictTotalOrder is_before → IsLatch l → IsLatch k → IsInOrderFrom 0 (latches n)
        → places_before latches m + i < places_before latches n + j → IsEarlier m l n k ⊎ ((m ≡ n) × (l ≡ k))
    earlier-number total is_l is_k order low = go (cases_order m n)
      where
        within : m ≡ n → (is_before l k ≡ true) ⊎ (is_before k l ≡ true) ⊎ (l ≡ k) → IsEarlier m l n k ⊎ ((m ≡ n) × (l ≡ k))
        within same (inl less) = inl (inr (same, ltb-true (latch_rank l) (latch_rank k) less))
        within same (inr (inl more)) =
            let at = ap (places_before latches) same in
            let here : slice_get (latches n) i ≡ Some l = ap (λ s. slice_get (latches s) i) (sym same) ∙ there in
            let up = order-at 0 (latches n) i j l k order (omega (arith, low, at)) here also in
            absurd (omega (arith, up, ltb-true (latch_rank k) (latch_rank l) more))
        within same (inr (inr one)) = inr (same, one)

        go : (m ≡ n) ⊎ ((m < n) ⊎ (n < m)) → IsEarlier m l n k ⊎ ((m ≡ n) × (l ≡ k))
        go (inl same) = within same (total.total l k is_l is_k)
        go (inr (inl less)) = inl (inl less)
        go (inr (inr more)) =
            let past = place-low latches n j m more (slice_get_within (latches n) j k also) in absurd (omega (arith, past, low))
