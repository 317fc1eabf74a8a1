-- The rule on a small place, with the words of two secrets in two shares each and a mask: the product of a share of each, and the mask with it
-- added. And two of three shares.
use Rattle.std.proofs.Common.{◌≡◌, ◌≢◌, ℕ, zero, suc, ◌^◌, ◌<◌, true, List, [], ◌∷◌, slice_get, Some, All, refl, arith}
use Rattle.std.specs.Prelude.{bit_and, bit_xor}
use Rattle.std.specs.Int.Bits.{and_lt}
use Rattle.std.proofs.lemmas.List.{get_or-set_other}
use Rattle.std.proofs.lemmas.List.Elements.{All-nil, All-cons}
use Rattle.masked_worlds.specs.declared.role.Role.{Role}
use Rattle.masked_worlds.specs.declared.role.Role.TheVariants.{Mask, Share}
use Rattle.masked_worlds.specs.declared.pivot.Pivot.TheVariants.{AtMask, AtShares}
use Rattle.masked_worlds.specs.Tapes.{is_tape}
use Rattle.masked_worlds.specs.Changes.{word_at, IsApart, IsApartFrom}
use Rattle.masked_worlds.specs.Forms.{TellNothing, IsOff}
use Rattle.masked_worlds.proofs.Words.{word-low}
use Rattle.masked_worlds.proofs.Forms.{form-is-cut, forms-leave-out}

-- two forms of a word each, which stand elsewhere
word_apart : (place other : ℕ) → other ≢ place → IsApart place (λ t. word_at t other)
word_apart place other apart t x = get_or-set_other t place other x 0 apart

abbrev roles : List Role
roles = Share 0 ∷ Share 0 ∷ Share 1 ∷ Share 1 ∷ Mask ∷ []

abbrev tape : List ℕ
tape = 0 ∷ 0 ∷ 0 ∷ 0 ∷ 0 ∷ []

-- a share of secret 0 and one of secret 1
abbrev product : List ℕ → ℕ
product t = bit_and (word_at t 0) (word_at t 3)

product_apart : (place : ℕ) → 0 ≢ place → 3 ≢ place → IsApart place product
product_apart place one two t x =
    let first = word_apart place 0 one t x in
    let second = word_apart place 3 two t x in
    λ i. bit_and (first i) (second i)

product_low : (t : List ℕ) → is_tape roles tape t ≡ true → product t < 2 ^ 32
product_low t good =
    and_lt 32 (word_at t 0) (word_at t 3) (word-low roles tape t 0 (Share 0) refl refl good) (word-low roles tape t 3 (Share 1) refl refl good)

-- the shares that are left out: that at place 1 of secret 0, and that at place 2 of secret 1
abbrev left_out : ℕ → ℕ
left_out zero = 1
left_out (suc k) = 2

there : (k : ℕ) → k < 2 → slice_get roles (left_out k) ≡ Some (Share k)
there zero low = refl
there (suc zero) low = refl
there (suc (suc k)) low = absurd (omega (arith, low))

products_left : (k : ℕ) → k < 2 → All (λ form. IsApart (left_out k) form) (product ∷ [])
products_left zero low =
    All-cons (λ (f : List ℕ → ℕ). IsApart 1 f) product [] (product_apart 1 (λ e. absurd (omega (arith, e))) (λ e. absurd (omega (arith, e))))
    (All-nil (λ (f : List ℕ → ℕ). IsApart 1 f))
products_left (suc k) low =
    All-cons (λ (f : List ℕ → ℕ). IsApart 2 f) product [] (product_apart 2 (λ e. absurd (omega (arith, e))) (λ e. absurd (omega (arith, e))))
    (All-nil (λ (f : List ℕ → ℕ). IsApart 2 f))

leaves_left : (k : ℕ) → k < 2 → All (λ leaf. leaf ≢ left_out k) (4 ∷ [])
leaves_left zero low = All-cons (λ (n : ℕ). n ≢ 1) 4 [] (λ e. absurd (omega (arith, e))) (All-nil (λ (n : ℕ). n ≢ 1))
leaves_left (suc k) low = All-cons (λ (n : ℕ). n ≢ 2) 4 [] (λ e. absurd (omega (arith, e))) (All-nil (λ (n : ℕ). n ≢ 2))

pub masked_product : TellNothing roles tape [] (product ∷ (λ t. bit_xor (word_at t 4) (product t)) ∷ [])
masked_product =
    form-is-cut roles tape refl (AtMask 4) refl [] (All-nil (IsOff (AtMask 4))) (product ∷ []) []
    (All-cons (IsApartFrom {X = ℕ} (AtMask 4)) product [] apart (All-nil (IsApartFrom {X = ℕ} (AtMask 4)))) (All-nil (IsApartFrom {X = ℕ} (AtMask 4)))
    (λ t. bit_xor (word_at t 4) (product t)) product (λ t good. refl) product_low apart
    (forms-leave-out roles tape refl left_out there (4 ∷ []) leaves_left (product ∷ []) products_left)
  where
    apart : IsApart 4 product
    apart = product_apart 4 (λ e. absurd (omega (arith, e))) (λ e. absurd (omega (arith, e)))

-- Of three shares two are added: the first is cut, with the third as its partner, and the second is left out.
abbrev three : List Role
three = Share 0 ∷ Share 0 ∷ Share 0 ∷ []

abbrev words : List ℕ
words = 0 ∷ 0 ∷ 0 ∷ []

only : (k : ℕ) → k < 1 → slice_get three 1 ≡ Some (Share k)
only zero low = refl
only (suc k) low = absurd (omega (arith, low))

pub two_of_three : TellNothing three words [] ((λ t. bit_xor (word_at t 0) (word_at t 1)) ∷ [])
two_of_three =
    form-is-cut three words refl (AtShares 0 2) (0, refl, refl, (λ e. absurd (omega (arith, e)))) [] (All-nil (IsOff (AtShares 0 2))) [] []
    (All-nil (IsApartFrom {X = ℕ} (AtShares 0 2))) (All-nil (IsApartFrom {X = ℕ} (AtShares 0 2)))
    (λ t. bit_xor (word_at t 0) (word_at t 1)) (λ t. word_at t 1) (λ t good. refl) (λ t good. word-low three words t 1 (Share 0) refl refl good)
    (word_apart 0 1 (λ e. absurd (omega (arith, e))), word_apart 2 1 (λ e. absurd (omega (arith, e))))
    (forms-leave-out three words refl (λ k. 1) only (0 ∷ [])
    (λ k low. All-cons (λ (n : ℕ). n ≢ 1) 0 [] (λ e. absurd (omega (arith, e))) (All-nil (λ (n : ℕ). n ≢ 1))) []
    (λ k low. All-nil (λ (form : List ℕ → ℕ). IsApart 1 form)))
