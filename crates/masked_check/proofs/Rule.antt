-- Whatever is closed under the rule holds of what is shown.
use Rattle.std.proofs.Common.{◌≡◌, ℕ, ◌^◌, ◌<◌, List, ◌∷◌}
use Rattle.std.specs.Prelude.{bit_xor}
use Rattle.masked_worlds.specs.declared.role.Role.{Role}
use Rattle.masked_worlds.specs.declared.pivot.Pivot.{Pivot}
use Rattle.masked_worlds.specs.Changes.{IsPivot, IsApartFrom}
use Rattle.masked_check.specs.Shown.{seen_word, LeavesOut, IsShown, leaves_out, determined, cut}

module _ (roles : List Role) (Tells : (List ℕ → List ℕ) → Type 0)
    (when_left_out : (seen : List ℕ → List ℕ) → LeavesOut roles seen → Tells seen)
    (when_determined : (seen other from : List ℕ → List ℕ) → ((t : List ℕ) → seen t ≡ from (other t)) → Tells other → Tells seen)
    (when_cut : (pivot : Pivot) → IsPivot roles pivot → (e : List ℕ → ℕ) → ((t : List ℕ) → e t < 2 ^ 32) → IsApartFrom pivot e
    → (others : List ℕ → List ℕ) → IsApartFrom pivot others
    → Tells (λ t. seen_word pivot t ∷ others t) → Tells (λ t. bit_xor (seen_word pivot t) (e t) ∷ others t))
  where
    pub shown-tells : (seen : List ℕ → List ℕ) → IsShown roles seen → Tells seen
    shown-tells seen (leaves_out out) = when_left_out seen out
    shown-tells seen (determined other from is shown) = when_determined seen other from is (shown-tells other shown)
    shown-tells seen (cut pivot at e low e_apart others others_apart is shown) =
        when_determined seen (λ t. bit_xor (seen_word pivot t) (e t) ∷ others t) (λ vs. vs) is
        (when_cut pivot at e low e_apart others others_apart (shown-tells (λ t. seen_word pivot t ∷ others t) shown))
