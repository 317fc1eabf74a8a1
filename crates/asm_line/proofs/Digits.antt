-- Digits, one after another, and the cap.
use Rattle.std.proofs.Common.{◌≡◌, ℕ, suc, ◌+◌, ◌-◌, ◌*◌, ◌<◌, ◌≤◌, ◌^◌, min, ◌∙◌, List, length, drop, get_or, refl, ap, sym, arith, Option, Some, None, option_map, Ok, Err, false, ◌&&◌, cond, leb, ltb, zero, ℤ, pos, negsuc, drop-cons, ◌⊎◌, inl, inr}
use Rattle.std.proofs.Math.Nat.{mul-le-mul}
use Rattle.std.proofs.lemmas.Bool.{lt-leb, le-ltb}
use Rattle.asm_line.specs.declared.line.AsmKind.TheVariants.{BadNumber, OutOfRange}
use Rattle.asm_line.specs.declared.fields.Target.TheVariants.{Distance}
use Rattle.asm_line.specs.Numbers.{digit_of, with_digit, digits_after, negative, is_even}
use Rattle.asm_line.specs.Capped.{cap, capped, capped_number}
use Rattle.asm_line.specs.Operands.{in_range, or_fault, distance_in, target_or_label, ◌>>=◌}

-- the digit at i, then those after it
pub digits_after-more : (base n : ℕ) (bs : List ℕ) (i : ℕ) → i < length bs
    → digits_after base (Some n) (drop i bs) ≡ digits_after base (with_digit base n (digit_of (get_or bs i 0))) (drop (i + 1) bs)
digits_after-more base n bs i lt =
    ap (λ l. digits_after base (Some n) l) (drop-cons bs i 0 lt)
    ∙ ap (λ k. digits_after base (with_digit base n (digit_of (get_or bs i 0))) (drop k bs)) (let e : suc i ≡ i + 1 = omega arith in e)

pub product_bound : (n base : ℕ) → n ≤ 2 ^ 33 → base ≤ 16 → n * base ≤ 137438953472
product_bound n base small low = mul-le-mul {n₁ = n} {m₁ = base} {n₂ = 2 ^ 33} {m₂ = 16} small low

both_above : (a b c : ℕ) → c ≤ a → c ≤ b → min a c ≡ min b c
both_above a b c p q = omega arith

le_or_above : (n c : ℕ) → (n ≤ c) ⊎ (c ≤ n)
le_or_above n c = grind arith

pub capped_more : (n base d : ℕ) → 1 ≤ base → capped (capped n * base + d) ≡ capped (n * base + d)
capped_more n base d low =
    elim (le_or_above n cap) as (λ _. capped (capped n * base + d) ≡ capped (n * base + d)) [
      | inl small ↦ let e : capped n ≡ n = omega arith in ap (λ m. capped (m * base + d)) e
      | inr large ↦
          let e : capped n ≡ cap = omega arith in
          let p : cap * 1 ≤ cap * base = mul-le-mul {n₁ = cap} {m₁ = 1} {n₂ = cap} {m₂ = base} (omega arith) low in
          let q : cap * base ≤ n * base = mul-le-mul {n₁ = cap} {m₁ = base} {n₂ = n} {m₂ = base} large (omega arith) in
          ap (λ m. capped (m * base + d)) e ∙ both_above (cap * base + d) (n * base + d) cap (omega arith) (omega arith)
    ]

-- ---- signs

negative-capped : (n : ℕ) → capped_number (negative n) ≡ negative (capped n)
negative-capped zero = refl
negative-capped (suc n) = let e : suc (min n (cap - 1)) ≡ min (suc n) cap = omega arith in ap negative e

pub capped-negatives : (o : Option ℕ) → option_map capped_number (option_map negative o) ≡ option_map negative (option_map capped o)
capped-negatives None = refl
capped-negatives (Some n) = ap (λ z. Some z) (negative-capped n)

pub capped-positives : (o : Option ℕ) → option_map capped_number (option_map pos o) ≡ option_map pos (option_map capped o)
capped-positives None = refl
capped-positives (Some n) = refl

pub ruleset caps = (capped-negatives, capped-positives)

-- ---- ranges lie below the cap

within_pos : (below above n : ℕ) → above < 2 ^ 33 → in_range below above (pos (min n cap)) ≡ in_range below above (pos n)
within_pos below above n high =
    elim (le_or_above n cap) as (λ _. in_range below above (pos (min n cap)) ≡ in_range below above (pos n)) [
      | inl small ↦ let e : min n cap ≡ n = omega arith in ap (λ m. in_range below above (pos m)) e
      | inr large ↦
          let past : min n cap ≡ cap = omega arith in
          let p : leb (min n cap) above ≡ false = lt-leb (min n cap) above (omega arith) in
          let q : leb n above ≡ false = lt-leb n above (omega arith) in
          ap (λ t. cond t (Ok (pos (min n cap))) (Err OutOfRange)) p ∙ sym (ap (λ t. cond t (Ok (pos n)) (Err OutOfRange)) q)
    ]

within_neg : (below above n : ℕ) → below ≤ 2 ^ 32 → in_range below above (negsuc (min n (cap - 1))) ≡ in_range below above (negsuc n)
within_neg below above n low =
    elim (le_or_above n (cap - 1)) as (λ _. in_range below above (negsuc (min n (cap - 1))) ≡ in_range below above (negsuc n)) [
      | inl small ↦ let e : min n (cap - 1) ≡ n = omega arith in ap (λ m. in_range below above (negsuc m)) e
      | inr large ↦
          let p : ltb (min n (cap - 1)) below ≡ false = le-ltb (min n (cap - 1)) below (omega arith) in
          let q : ltb n below ≡ false = le-ltb n below (omega arith) in
          ap (λ t. cond t (Ok (negsuc (min n (cap - 1)))) (Err OutOfRange)) p ∙ sym (ap (λ t. cond t (Ok (negsuc n)) (Err OutOfRange)) q)
    ]

in_range-capped : (below above : ℕ) (z : ℤ) → below ≤ 2 ^ 32 → above < 2 ^ 33 → in_range below above (capped_number z) ≡ in_range below above z
in_range-capped below above (pos n) low high = within_pos below above n high
in_range-capped below above (negsuc n) low high = within_neg below above n low

-- a number in a range is the same up to the cap
pub number-capped : (below above : ℕ) (o : Option ℤ) → below ≤ 2 ^ 32 → above < 2 ^ 33
    → (or_fault (option_map capped_number o) BadNumber >>= λ z. in_range below above z) ≡ (or_fault o BadNumber >>= λ z. in_range below above z)
number-capped below above None low high = refl
number-capped below above (Some z) low high = in_range-capped below above z low high

-- ---- and so do distances

distance_pos : (reach n : ℕ) → reach ≤ 2 ^ 20 → distance_in reach (pos (min n cap)) ≡ distance_in reach (pos n)
distance_pos reach n low =
    elim (le_or_above n cap) as (λ _. distance_in reach (pos (min n cap)) ≡ distance_in reach (pos n)) [
      | inl small ↦ let e : min n cap ≡ n = omega arith in ap (λ m. distance_in reach (pos m)) e
      | inr large ↦
          let p : leb (min n cap) (reach - 2) ≡ false = lt-leb (min n cap) (reach - 2) (omega arith) in
          let q : leb n (reach - 2) ≡ false = lt-leb n (reach - 2) (omega arith) in
          ap (λ t. cond (t && is_even (pos (min n cap))) (Ok (Distance (pos (min n cap)))) (Err OutOfRange)) p
          ∙ sym (ap (λ t. cond (t && is_even (pos n)) (Ok (Distance (pos n))) (Err OutOfRange)) q)
    ]

distance_neg : (reach n : ℕ) → reach ≤ 2 ^ 20 → distance_in reach (negsuc (min n (cap - 1))) ≡ distance_in reach (negsuc n)
distance_neg reach n low =
    elim (le_or_above n (cap - 1)) as (λ _. distance_in reach (negsuc (min n (cap - 1))) ≡ distance_in reach (negsuc n)) [
      | inl small ↦ let e : min n (cap - 1) ≡ n = omega arith in ap (λ m. distance_in reach (negsuc m)) e
      | inr large ↦
          let p : ltb (min n (cap - 1)) reach ≡ false = le-ltb (min n (cap - 1)) reach (omega arith) in
          let q : ltb n reach ≡ false = le-ltb n reach (omega arith) in
          ap (λ t. cond (t && is_even (negsuc (min n (cap - 1)))) (Ok (Distance (negsuc (min n (cap - 1))))) (Err OutOfRange)) p
          ∙ sym (ap (λ t. cond (t && is_even (negsuc n)) (Ok (Distance (negsuc n))) (Err OutOfRange)) q)
    ]

distance_in-capped : (reach : ℕ) (z : ℤ) → reach ≤ 2 ^ 20 → distance_in reach (capped_number z) ≡ distance_in reach z
distance_in-capped reach (pos n) low = distance_pos reach n low
distance_in-capped reach (negsuc n) low = distance_neg reach n low

-- a target is the same up to the cap
pub target-capped : (reach : ℕ) (o : Option ℤ) (text : List ℕ) → reach ≤ 2 ^ 20
    → target_or_label reach (option_map capped_number o) text ≡ target_or_label reach o text
target-capped reach None text low = refl
target-capped reach (Some z) text low = distance_in-capped reach z low
