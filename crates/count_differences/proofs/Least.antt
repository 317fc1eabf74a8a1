-- The first place at which two sorted lists differ has the least item that they have in different numbers.
use Rattle.std.proofs.Common.{◌≡◌, ℕ, zero, suc, ◌+◌, ◌<◌, true, false, cond, List, [], ◌∷◌, length, get_or, refl, ap, sym, ◌∙◌, subst, arith, true≢false, IsPermutation, Less, Equal, Greater, Option, Some, None, IfNone, IfSome}
use Rattle.std.specs.List.Sorted.{IsSortedBy}
use Rattle.std.specs.Cmp.{IsTotalOrder}
use Rattle.std.specs.Ordering.{is_eq, is_lt, ordering_reverse}
use Rattle.std.specs.declared.cmp.Ordering.{Ordering}
use Rattle.std.proofs.lemmas.Cmp.{tied_itself}
use Rattle.std.proofs.lemmas.List.Sums.{sum_by-cons}
use Rattle.std.proofs.lemmas.List.Sorted.{sum_by-IsPermutation}
use Rattle.count_differences.specs.Differences.{how_often, IsLeastDifference}

-- 1 for what ties
abbrev weight : Ordering → ℕ
weight o = cond (is_eq o) 1 0

module _ {X : Type 0} (cmp : X → X → Ordering) (order : IsTotalOrder cmp) where
  abbrev often : X → List X → ℕ
  often z xs = how_often cmp z xs

  often-cons : (z x : X) (xs : List X) → often z (x ∷ xs) ≡ weight (cmp x z) + often z xs
  often-cons z x xs = sum_by-cons (λ (y : X). cond (is_eq (cmp y z)) 1 0) x xs

  -- the other way round
  less-greater : (x y : X) → cmp x y ≡ Less → cmp y x ≡ Greater
  less-greater x y is = order.antisymm y x ∙ ap ordering_reverse is

  greater-less : (x y : X) → cmp x y ≡ Greater → cmp y x ≡ Less
  greater-less x y is = order.antisymm y x ∙ ap ordering_reverse is

  equal-equal : (x y : X) → cmp x y ≡ Equal → cmp y x ≡ Equal
  equal-equal x y is = order.antisymm y x ∙ ap ordering_reverse is

  -- an item that isn't below y is above what y is above
  above : (z y x : X) → cmp z y ≡ Less → is_lt (cmp x y) ≡ false → cmp x z ≡ Greater
  above z y x below upto = go (cmp x y) refl
    where
      go : (o : Ordering) → cmp x y ≡ o → cmp x z ≡ Greater
      go Less is = absurd (true≢false (sym (ap is_lt is) ∙ upto))
      go Equal is = order.congr x y z is ∙ less-greater z y below
      go Greater is = less-greater z x (order.trans z y x below (greater-less x y is))

  -- no item is below this one
  abbrev NoneBelow : X → List X → Type 0
  NoneBelow x [] = Unit {0}
  NoneBelow x (y ∷ ys) = (is_lt (cmp y x) ≡ false) × NoneBelow x ys

  -- what is below such an item stands nowhere
  nowhere : (z x : X) (ys : List X) → cmp z x ≡ Less → NoneBelow x ys → often z ys ≡ 0
  nowhere z x [] below none = refl
  nowhere z x (y ∷ ys) below none =
      let counted = often-cons z y ys in
      let zero_here : weight (cmp y z) ≡ 0 = ap weight (above z x y below none.0) in
      let rest = nowhere z x ys below none.1 in
      omega (arith, counted, zero_here, rest)

  abbrev IsAscending : List X → Type 0
  IsAscending [] = Unit {0}
  IsAscending (x ∷ xs) = NoneBelow x xs × IsAscending xs

  below_both : (x y z : X) → is_lt (cmp y x) ≡ false → cmp z x ≡ Less → (o : Ordering) → cmp z y ≡ o → is_lt o ≡ false → ⊥
  below_both x y z first below Less is second = true≢false second
  below_both x y z first below Equal is second = true≢false (sym (ap is_lt (sym (order.congr z y x is) ∙ below)) ∙ first)
  below_both x y z first below Greater is second = true≢false (sym (ap is_lt (order.trans y z x (greater-less z y is) below)) ∙ first)

  -- not below y, which is not below x
  not_below : (x y z : X) → is_lt (cmp y x) ≡ false → is_lt (cmp z y) ≡ false → is_lt (cmp z x) ≡ false
  not_below x y z first second = go (cmp z x) refl
    where
      go : (o : Ordering) → cmp z x ≡ o → is_lt o ≡ false
      go Less is = absurd (below_both x y z first is (cmp z y) refl second)
      go Equal is = refl
      go Greater is = refl

  raised : (x y : X) (ys : List X) → is_lt (cmp y x) ≡ false → NoneBelow y ys → NoneBelow x ys
  raised x y [] first none = tt
  raised x y (z ∷ zs) first none = (not_below x y z first none.0, raised x y zs first none.1)

  abbrev IsInOrder : List X → Type 0
  IsInOrder xs = IsSortedBy (λ (x y : X). is_lt (cmp x y)) xs

  none_below_first : (x : X) (xs : List X) → IsAscending xs → IsInOrder (x ∷ xs) → NoneBelow x xs
  none_below_first x [] ascending sorted = tt
  none_below_first x (y ∷ ys) ascending sorted =
      let first : is_lt (cmp y x) ≡ false = sorted 0 x (omega arith) (omega arith) in (first, raised x y ys first ascending.0)

  in_order_tail : (x : X) (xs : List X) → IsInOrder (x ∷ xs) → IsInOrder xs
  in_order_tail x xs sorted k d low high =
      let place : suc k + 1 ≡ suc (k + 1) = omega arith in
      let P : ℕ → Type 0 = λ n. is_lt (cmp (get_or (x ∷ xs) n d) (get_or xs k d)) ≡ false in
      subst P place (sorted (suc k) d (omega arith) (omega (arith, high)))

  pub ascending-from : (xs : List X) → IsInOrder xs → IsAscending xs
  ascending-from [] sorted = tt
  ascending-from (x ∷ xs) sorted =
      let rest = ascending-from xs (in_order_tail x xs sorted) in (none_below_first x xs rest sorted, rest)

  less_from : (o : Ordering) → is_lt o ≡ true → o ≡ Less
  less_from Less is = refl
  less_from Equal is = absurd (true≢false (sym is))
  less_from Greater is = absurd (true≢false (sym is))

  itself : (x : X) → cmp x x ≡ Equal
  itself x = tied_itself order x

  -- the first items differ
  differ-here : (x y : X) (xs ys : List X) → NoneBelow x xs → NoneBelow y ys → cmp x y ≡ Less → IsLeastDifference cmp (x ∷ xs) (y ∷ ys) x
  differ-here x y xs ys first second below = record {
    differs = λ same.
        let one = often-cons x x xs ∙ ap (λ (o : Ordering). weight o + often x xs) (itself x) in
        let none = nowhere x y (y ∷ ys) below (ap is_lt (itself y), second) in
        absurd (omega (arith, one, none, same));
    lesser = λ z under.
        let less = less_from (cmp z x) under in
        nowhere z x (x ∷ xs) less (ap is_lt (itself x), first) ∙ sym (nowhere z y (y ∷ ys) (order.trans z x y less below) (ap is_lt (itself y), second));
  }

  same_bit : (x y z : X) → cmp x y ≡ Equal → weight (cmp x z) ≡ weight (cmp y z)
  same_bit x y z tied = ap weight (order.congr x y z tied)

  -- before what differs there may stand what ties
  differ-later : (x y : X) (xs ys : List X) (item : X) → cmp x y ≡ Equal → IsLeastDifference cmp xs ys item → IsLeastDifference cmp (x ∷ xs) (y ∷ ys) item
  differ-later x y xs ys item tied rest = record {
    differs = λ same.
        let first = often-cons item x xs in
        let second = often-cons item y ys in
        let bits = same_bit x y item tied in
        rest.differs (omega (arith, first, second, bits, same));
    lesser = λ z under.
        let first = often-cons z x xs in
        let second = often-cons z y ys in
        let bits = same_bit x y z tied in
        let others = rest.lesser z under in
        omega (arith, first, second, bits, others);
  }

  -- up to a place the items tie, one by one
  abbrev pub TieBelow : List X → List X → ℕ → Type 0
  TieBelow xs ys n = (k : ℕ) (d : X) → k < n → cmp (get_or xs k d) (get_or ys k d) ≡ Equal

  pub first-differs : (xs ys : List X) (i : ℕ) (d : X) → IsAscending xs → IsAscending ys → i < length xs → i < length ys → TieBelow xs ys i
      → cmp (get_or xs i d) (get_or ys i d) ≡ Less → IsLeastDifference cmp xs ys (get_or xs i d)
  first-differs [] ys i d one two low high tie below = absurd (omega (arith, low))
  first-differs (x ∷ xs) [] i d one two low high tie below = absurd (omega (arith, high))
  first-differs (x ∷ xs) (y ∷ ys) zero d one two low high tie below = differ-here x y xs ys one.0 two.0 below
  first-differs (x ∷ xs) (y ∷ ys) (suc i) d one two low high tie below =
      differ-later x y xs ys (get_or xs i d) (tie 0 d (omega arith))
      (first-differs xs ys i d one.1 two.1 (omega (arith, low)) (omega (arith, high)) (λ k e under. tie (suc k) e (omega (arith, under))) below)

  flipped : (xs ys : List X) (item : X) → IsLeastDifference cmp xs ys item → IsLeastDifference cmp ys xs item
  flipped xs ys item is = record { differs = λ same. is.differs (sym same); lesser = λ z under. sym (is.lesser z under) }

  pub first-differs-back : (xs ys : List X) (i : ℕ) (d : X) → IsAscending xs → IsAscending ys → i < length xs → i < length ys → TieBelow xs ys i
      → cmp (get_or xs i d) (get_or ys i d) ≡ Greater → IsLeastDifference cmp xs ys (get_or ys i d)
  first-differs-back xs ys i d one two low high tie over =
      flipped ys xs (get_or ys i d)
      (first-differs ys xs i d two one high low (λ k e under. equal-equal (get_or xs k e) (get_or ys k e) (tie k e under))
      (greater-less (get_or xs i d) (get_or ys i d) over))

  pub all-tie : (xs ys : List X) → length xs ≡ length ys → TieBelow xs ys (length xs) → (z : X) → often z xs ≡ often z ys
  all-tie [] [] same tie z = refl
  all-tie [] (y ∷ ys) same tie z = absurd (omega (arith, same))
  all-tie (x ∷ xs) [] same tie z = absurd (omega (arith, same))
  all-tie (x ∷ xs) (y ∷ ys) same tie z =
      let first = often-cons z x xs in
      let second = often-cons z y ys in
      let bits = same_bit x y z (tie 0 x (omega arith)) in
      let rest = all-tie xs ys (omega (arith, same)) (λ k d under. tie (suc k) d (omega (arith, under))) z in
      omega (arith, first, second, bits, rest)

  -- a list in another order
  pub often-permuted : (xs ys : List X) → IsPermutation xs ys → (z : X) → often z ys ≡ often z xs
  often-permuted xs ys moved z = sum_by-IsPermutation (λ (x : X). cond (is_eq (cmp x z)) 1 0) xs ys moved

  pub least-permuted : (xs ys us vs : List X) (item : X) → IsPermutation xs us → IsPermutation ys vs → IsLeastDifference cmp us vs item → IsLeastDifference cmp xs ys item
  least-permuted xs ys us vs item one two is = record {
    differs = λ same. is.differs (often-permuted xs us one item ∙ same ∙ sym (often-permuted ys vs two item));
    lesser = λ z under. sym (often-permuted xs us one z) ∙ is.lesser z under ∙ often-permuted ys vs two z;
  }

-- what stands at a place that is there doesn't hang on the default
pub get-default : {X : Type 0} (xs : List X) (i : ℕ) (d e : X) → i < length xs → get_or xs i d ≡ get_or xs i e
get-default [] i d e low = absurd (omega (arith, low))
get-default (x ∷ xs) zero d e low = refl
get-default (x ∷ xs) (suc i) d e low = get-default xs i d e (omega (arith, low))

pub if-none : {A P Q : Type 0} (o : Option A) → (P → Q) → IfNone o P → IfNone o Q
if-none None f p = f p
if-none (Some x) f p = p

pub if-some : {A : Type 0} (P Q : A → Type 0) (o : Option A) → ((x : A) → P x → Q x) → IfSome o P → IfSome o Q
if-some P Q None f p = p
if-some P Q (Some x) f p = f x p
