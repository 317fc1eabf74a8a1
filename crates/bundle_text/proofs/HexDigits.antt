-- Hexadecimal digits, one after another.
use Rattle.std.proofs.Common.{◌≡◌, ℕ, ◌+◌, ◌*◌, ◌<◌, ◌≤◌, ◌^◌, ◌∙◌, List, [], ◌∷◌, length, drop, get_or, refl, ap, arith, Option, None, add-one, drop-cons, suc}
use Rattle.std.proofs.Math.Nat.{pow-le-pow_right, pow-suc}
use Rattle.bundle_text.specs.Numbers.{hex_after, with_char}

pub hex_after-None : (bs : List ℕ) → hex_after None bs ≡ None
hex_after-None [] = refl
hex_after-None (b ∷ bs) = hex_after-None bs

-- the digit at i, then those after it
pub hex_after-more : (bs : List ℕ) (i : ℕ) (n : Option ℕ) → i < length bs → hex_after n (drop i bs) ≡ hex_after (with_char n (get_or bs i 0)) (drop (i + 1) bs)
hex_after-more bs i n lt = ap (λ l. hex_after n l) (drop-cons bs i 0 lt) ∙ ap (λ k. hex_after (with_char n (get_or bs i 0)) (drop k bs)) (let e : suc i ≡ i + 1 = omega arith in e)

pub seven : (v i : ℕ) → v < 16 ^ i → i < 8 → v < 268435456
seven v i lt small =
    let pos : 0 < 16 = omega arith in
    let seven_more : i ≤ 7 = omega arith in
    let top : 16 ^ i ≤ 16 ^ 7 = pow-le-pow_right {n = 16} pos {i = i} {j = 7} seven_more in omega arith

pub grows : (v d i : ℕ) → v < 16 ^ i → d < 16 → v * 16 + d < 16 ^ (i + 1)
grows v d i lt small =
    let e : 16 ^ (i + 1) ≡ 16 ^ i * 16 = ap (λ k. 16 ^ k) (add-one i) ∙ pow-suc 16 i in omega arith

pub eight : (v i : ℕ) → v < 16 ^ i → i ≤ 8 → v < 4294967296
eight v i lt small =
    let pos : 0 < 16 = omega arith in
    let top : 16 ^ i ≤ 16 ^ 8 = pow-le-pow_right {n = 16} pos {i = i} {j = 8} small in omega arith
