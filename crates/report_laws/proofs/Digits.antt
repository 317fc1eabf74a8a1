-- Where decimal digits end.
use Rattle.std.proofs.Common.{◌≡◌, ℕ, zero, suc, ◌+◌, ◌/◌, ◌%◌, ◌<◌, ◌≤◌, Bool, true, false, cond, eqb, ltb, List, [], ◌∷◌, ◌++◌, decimal, refl, arith}
use Rattle.std.specs.List.{AllByRecursion}
use Rattle.std.specs.Fmt.{digits, digits_onto, digit_glyph}

-- ---- no character of a decimal number stands before the digit 0

abbrev pub AreHigh : List ℕ → Type 0
AreHigh text = AllByRecursion (λ c. 48 ≤ c) text

glyph_by : (a b : Bool) (d : ℕ) → 48 ≤ cond a (48 + d) (cond b (55 + d) (87 + d))
glyph_by true b d = omega arith
glyph_by false true d = omega arith
glyph_by false false d = omega arith

glyph_high : (upper : Bool) (d : ℕ) → 48 ≤ digit_glyph upper d
glyph_high upper d = glyph_by (ltb d 10) upper d

either_high : (b : Bool) (xs ys : List ℕ) → AreHigh xs → AreHigh ys → AreHigh (cond b xs ys)
either_high true xs ys p q = p
either_high false xs ys p q = q

onto_high : (k base : ℕ) (upper : Bool) (n : ℕ) (acc : List ℕ) → AreHigh acc → AreHigh (digits_onto k base upper n acc)
onto_high zero base upper n acc h = h
onto_high (suc k) base upper n acc h =
    let more : AreHigh (digit_glyph upper (n % base) ∷ acc) = (glyph_high upper (n % base), h) in
    either_high (eqb (n / base) 0) _ _ more (onto_high k base upper (n / base) (digit_glyph upper (n % base) ∷ acc) more)

digits_high : (base : ℕ) (upper : Bool) (n : ℕ) → AreHigh (digits base upper n)
unfolding digits
digits_high base upper n = onto_high 64 base upper n [] tt

pub decimal_high : (n : ℕ) → AreHigh (decimal n)
decimal_high n = digits_high 10 false n

-- ---- so a number ends where a lower character follows

-- there is a first character, and it is below this one
abbrev pub BeginsBelow : ℕ → List ℕ → Type 0
BeginsBelow bound [] = ⊥
BeginsBelow bound (c ∷ text) = c < bound

pub begins_below_more : (low high : ℕ) (text : List ℕ) → low ≤ high → BeginsBelow low text → BeginsBelow high text
begins_below_more low high [] le h = absurd h
begins_below_more low high (c ∷ text) le h = omega arith

pub first_same : (x y : ℕ) (xs ys : List ℕ) → x ∷ xs ≡ y ∷ ys → x ≡ y
first_same x y xs ys e = cc

pub rest_same : (x y : ℕ) (xs ys : List ℕ) → x ∷ xs ≡ y ∷ ys → xs ≡ ys
rest_same x y xs ys e = cc

pub high_ends_once : (a b u v : List ℕ) → AreHigh a → AreHigh b → BeginsBelow 48 u → BeginsBelow 48 v → a ++ u ≡ b ++ v → (a ≡ b) × (u ≡ v)
high_ends_once [] [] u v ha hb hu hv e = (refl, e)
high_ends_once [] (d ∷ b) [] v ha hb hu hv e = absurd hu
high_ends_once [] (d ∷ b) (c ∷ u) v ha hb hu hv e = let same = first_same c d u (b ++ v) e in absurd (omega (arith, hb.0))
high_ends_once (c ∷ a) [] u [] ha hb hu hv e = absurd hv
high_ends_once (c ∷ a) [] u (d ∷ v) ha hb hu hv e = let same = first_same c d (a ++ u) v e in absurd (omega (arith, ha.0))
high_ends_once (c ∷ a) (d ∷ b) u v ha hb hu hv e =
    let first = first_same c d (a ++ u) (b ++ v) e in
    let p = high_ends_once a b u v ha.1 hb.1 hu hv (rest_same c d (a ++ u) (b ++ v) e) in
    let front : a ≡ b = p.0 in
    let whole : c ∷ a ≡ d ∷ b = cc in (whole, p.1)
