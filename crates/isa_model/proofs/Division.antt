-- A signed division of words rounds towards zero.
use Rattle.std.proofs.Common.{◌≡◌, ℕ, zero, suc, ◌%◌, ◌^◌, ◌<◌, false, ◌⊎◌, inl, inr, ℤ, pos, negsuc, neg_ℤ, unsigned_abs, int_div, int_rem, int_lt, refl, sym, ◌∙◌, arith}
use Rattle.std.proofs.lemmas.Bool.{ne_eqb, le-ltb}
use Rattle.std.proofs.lemmas.Int.{quot-rem, rem_below}
use Rattle.isa_model.specs.Arithmetic.{signed}
use Rattle.isa_model.specs.Laws.{DividesTowardsZero}

-- a remainder is 0 or has the sign of the dividend
negative_or_zero : (n : ℕ) → (neg_ℤ (pos n) ≡ pos 0) ⊎ (int_lt (neg_ℤ (pos n)) (pos 0) ≡ int_lt (negsuc 0) (pos 0))
negative_or_zero zero = inl refl
negative_or_zero (suc n) = inr refl

not-negative : (n : ℕ) → int_lt (pos n) (pos 0) ≡ false
not-negative n = le-ltb n 0 (omega arith)

sign_of : (a d : ℤ) → (int_rem a d ≡ pos 0) ⊎ (int_lt (int_rem a d) (pos 0) ≡ int_lt a (pos 0))
sign_of (pos n) d = inr (not-negative (n % unsigned_abs d) ∙ sym (not-negative n))
sign_of (negsuc n) d = negative_or_zero (suc n % unsigned_abs d)

-- the signed number of a word other than 0 isn't 0
some : (b : ℕ) → 0 < b → b < 2 ^ 32 → 0 < unsigned_abs (signed b)
some b low high = grind arith

pub divides_towards_zero : DividesTowardsZero
divides_towards_zero a b fits low high =
    let not_zero = ne_eqb b 0 (λ e. omega arith) in
    record {
      quotient = int_div (signed a) (signed b);
      remainder = int_rem (signed a) (signed b);
      adds_up = quot-rem (signed a) (signed b);
      is_smaller = rem_below (signed a) (signed b) (some b low high);
      sign = sign_of (signed a) (signed b);
      quotient_word = rw not_zero refl;
      remainder_word = rw not_zero refl;
    }
