-- The exclusive or of forms.
use Rattle.std.proofs.Common.{◌≡◌, ℕ, zero, suc, ◌^◌, ◌<◌, List, [], ◌∷◌, ◌++◌, length, get_or, take, drop, ap, sym, ◌∙◌, arith}
use Rattle.std.specs.Prelude.{bit_xor}
use Rattle.std.specs.Int.Bits.{xor_assoc, xor_self, xor_zero_r, xor_zero_l}
use Rattle.std.proofs.lemmas.Nat.{xor_comm, xor_lt}
use Rattle.masked_check.specs.Forms.{form_value}

pub xor-twice : (a v : ℕ) → bit_xor a (bit_xor a v) ≡ v
xor-twice a v = sym (xor_assoc a a v) ∙ ap (λ (x : ℕ). bit_xor x v) (xor_self a) ∙ xor_zero_l v

pub xor-swap : (a b v : ℕ) → bit_xor a (bit_xor b v) ≡ bit_xor b (bit_xor a v)
xor-swap a b v = sym (xor_assoc a b v) ∙ ap (λ (x : ℕ). bit_xor x v) (xor_comm a b) ∙ xor_assoc b a v

-- a sum and its two parts are nothing
pub xor-parts : (a b v : ℕ) → bit_xor b (bit_xor a (bit_xor (bit_xor a b) v)) ≡ v
xor-parts a b v = ap (λ (x : ℕ). bit_xor b (bit_xor a x)) (xor_assoc a b v) ∙ ap (bit_xor b) (xor-twice a (bit_xor b v)) ∙ xor-twice b v

pub form-append : (vs xs ys : List ℕ) → form_value vs (xs ++ ys) ≡ bit_xor (form_value vs xs) (form_value vs ys)
form-append vs [] ys = sym (xor_zero_l (form_value vs ys))
form-append vs (x ∷ xs) ys = ap (bit_xor (get_or vs x 0)) (form-append vs xs ys) ∙ sym (xor_assoc (get_or vs x 0) (form_value vs xs) (form_value vs ys))

pub form-more : (vs xs : List ℕ) (x : ℕ) → form_value vs (xs ++ x ∷ []) ≡ bit_xor (get_or vs x 0) (form_value vs xs)
form-more vs xs x = form-append vs xs (x ∷ []) ∙ ap (bit_xor (form_value vs xs)) (xor_zero_r (get_or vs x 0)) ∙ xor_comm (form_value vs xs) (get_or vs x 0)

pub form-without : (vs xs : List ℕ) (i : ℕ) → i < length xs
    → form_value vs (take i xs ++ drop (suc i) xs) ≡ bit_xor (get_or vs (get_or xs i 0) 0) (form_value vs xs)
form-without vs [] i low = absurd (omega arith)
form-without vs (x ∷ xs) zero low = sym (xor-twice (get_or vs x 0) (form_value vs xs))
form-without vs (x ∷ xs) (suc i) low =
    ap (bit_xor (get_or vs x 0)) (form-without vs xs i (omega arith)) ∙ xor-swap (get_or vs x 0) (get_or vs (get_or xs i 0) 0) (form_value vs xs)

pub form-low : (vs form : List ℕ) → ((i : ℕ) → get_or vs i 0 < 2 ^ 32) → form_value vs form < 2 ^ 32
form-low vs [] low = omega arith
form-low vs (a ∷ rest) low = xor_lt 32 (get_or vs a 0) (form_value vs rest) (low a) (form-low vs rest low)
