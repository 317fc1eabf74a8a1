-- What is shown tells nothing of the secrets.
use Rattle.std.proofs.Common.{◌≡◌, ℕ, ◌^◌, ◌<◌, Bool, true, false, List, ◌∷◌, length, slice_get, Some, sym, ◌∙◌, refl, arith, true≢false, lt-ltb, ltb-true}
use Rattle.std.specs.Prelude.{bit_xor, nat_lt}
use Rattle.isa_model.specs.Bits.{low_word}
use Rattle.masked_worlds.specs.declared.role.Role.{Role}
use Rattle.masked_worlds.specs.declared.role.Role.TheVariants.{Mask, Share}
use Rattle.masked_worlds.specs.declared.pivot.Pivot.{Pivot}
use Rattle.masked_worlds.specs.declared.pivot.Pivot.TheVariants.{AtMask, AtShares}
use Rattle.masked_worlds.specs.Tapes.{is_tape}
use Rattle.masked_worlds.specs.Secrets.{secret_count, AreNumbered, TellsNothing}
use Rattle.masked_worlds.specs.Changes.{word_at, IsApart, IsPivot, place_of, IsApartFrom}
use Rattle.masked_worlds.proofs.Words.{word-low}
use Rattle.masked_worlds.proofs.Silent.{determined-tells-nothing, cut-tells-nothing, apart-tells-nothing}
use Rattle.masked_check.specs.Shown.{seen_word, LeavesOne, LeavesOut, IsShown}
use Rattle.masked_check.proofs.Rule.{shown-tells}

low-same : (w : ℕ) → w < 2 ^ 32 → low_word w ≡ w
low-same w low = omega (arith, low)

module _ (roles : List Role) (words : List ℕ) (same : length roles ≡ length words) (numbered : AreNumbered roles) where
  at-pivot : (pivot : Pivot) → IsPivot roles pivot → (t : List ℕ) → is_tape roles words t ≡ true → seen_word pivot t ≡ word_at t (place_of pivot)
  at-pivot (AtMask place) is t good = low-same (word_at t place) (word-low roles words t place Mask is refl good)
  at-pivot (AtShares place partner) is t good = low-same (word_at t place) (word-low roles words t place (Share is.0) is.1 refl good)

  module _ (seen : List ℕ → List ℕ) (leaves : LeavesOut roles seen) where
    one : (k : ℕ) → k < secret_count roles → LeavesOne roles seen k
    one k less = let n = numbered k less in leaves k n.0 n.1

    pick : (k : ℕ) (b : Bool) → nat_lt k (secret_count roles) ≡ b → ℕ
    pick k true e = (one k (ltb-true k (secret_count roles) e)).0
    pick k false e = 0

    pick-have : (k : ℕ) (b : Bool) (e : nat_lt k (secret_count roles) ≡ b) → k < secret_count roles → slice_get roles (pick k b e) ≡ Some (Share k)
    unfolding pick one
    pick-have k true e less = (one k (ltb-true k (secret_count roles) e)).1
    pick-have k false e less = absurd (true≢false (sym (lt-ltb k (secret_count roles) less) ∙ e))

    pick-apart : (k : ℕ) (b : Bool) (e : nat_lt k (secret_count roles) ≡ b) → k < secret_count roles → IsApart (pick k b e) seen
    unfolding pick one
    pick-apart k true e less = (one k (ltb-true k (secret_count roles) e)).2
    pick-apart k false e less = absurd (true≢false (sym (lt-ltb k (secret_count roles) less) ∙ e))

    out : TellsNothing roles words seen
    out =
        apart-tells-nothing roles words same (λ k. pick k (nat_lt k (secret_count roles)) refl)
        (λ k less. pick-have k (nat_lt k (secret_count roles)) refl less) seen
        (λ k less. pick-apart k (nat_lt k (secret_count roles)) refl less)

  cuts : (pivot : Pivot) → IsPivot roles pivot → (e : List ℕ → ℕ) → ((t : List ℕ) → e t < 2 ^ 32) → IsApartFrom pivot e
      → (others : List ℕ → List ℕ) → IsApartFrom pivot others → TellsNothing roles words (λ t. seen_word pivot t ∷ others t)
      → TellsNothing roles words (λ t. bit_xor (seen_word pivot t) (e t) ∷ others t)
  cuts pivot is e low apart others aside hidden =
      determined-tells-nothing roles words (λ t. bit_xor (seen_word pivot t) (e t) ∷ others t)
      (λ t. bit_xor (word_at t (place_of pivot)) (e t) ∷ others t) (λ vs. vs)
      (λ t good. λ i. bit_xor (at-pivot pivot is t good i) (e t) ∷ others t)
      (cut-tells-nothing roles words same pivot is e (λ t good. low t) apart others aside
      (determined-tells-nothing roles words (λ t. word_at t (place_of pivot) ∷ others t) (λ t. seen_word pivot t ∷ others t) (λ vs. vs)
      (λ t good. λ i. sym (at-pivot pivot is t good) i ∷ others t) hidden))

  pub shown-tells-nothing : (seen : List ℕ → List ℕ) → IsShown roles seen → TellsNothing roles words seen
  shown-tells-nothing seen shown =
      shown-tells roles (TellsNothing roles words) out
      (λ seen other from is hidden. determined-tells-nothing roles words seen other from (λ t good. is t) hidden) cuts seen shown
