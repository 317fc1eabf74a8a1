-- The rule by which it is shown that what is seen of a tape tells nothing of its secrets.
use Rattle.std.specs.Prelude.{◌≡◌, ℕ, ◌^◌, ◌<◌, List, ◌∷◌, get_or, slice_get, Some, bit_xor}
use Rattle.isa_model.specs.Bits.{low_word}
use Rattle.tape_terms.specs.Marks.{IsApart}
use Rattle.masked_worlds.specs.declared.role.Role.{Role}
use Rattle.masked_worlds.specs.declared.role.Role.TheVariants.{Share}
use Rattle.masked_worlds.specs.declared.pivot.Pivot.{Pivot}
use Rattle.masked_worlds.specs.Changes.{IsPivot, place_of, IsApartFrom}

abbrev pub seen_word : Pivot → List ℕ → ℕ
seen_word pivot t = low_word (get_or t (place_of pivot) 0)

-- A secret has a share that what is seen doesn't hang on.
abbrev pub LeavesOne : List Role → (List ℕ → List ℕ) → ℕ → Type 0
LeavesOne roles seen k = (p : ℕ) × (slice_get roles p ≡ Some (Share k)) × IsApart p seen

-- So has each secret.
abbrev pub LeavesOut : List Role → (List ℕ → List ℕ) → Type 0
LeavesOut roles seen = (k place : ℕ) → slice_get roles place ≡ Some (Share k) → LeavesOne roles seen k

-- The numbers of the secrets are below a count.
abbrev pub AreBelow : List Role → ℕ → Type 0
AreBelow roles count = (k place : ℕ) → slice_get roles place ≡ Some (Share k) → k < count

-- It is shown that what is seen tells nothing: it leaves out a share of each secret; or it is determined by what is shown to tell nothing; or
-- a pivot's word is added to a part of it that doesn't hang on the pivot, nor does the rest, and with the pivot's word alone in place of this
-- part it is shown.
pub data IsShown (roles : List Role) : (List ℕ → List ℕ) → Type 0 where
  leaves_out : {seen : List ℕ → List ℕ} → LeavesOut roles seen → IsShown roles seen
  determined : {seen : List ℕ → List ℕ} (other from : List ℕ → List ℕ) → ((t : List ℕ) → seen t ≡ from (other t)) → IsShown roles other → IsShown roles seen
  cut : {seen : List ℕ → List ℕ} (pivot : Pivot) → IsPivot roles pivot → (e : List ℕ → ℕ) → ((t : List ℕ) → e t < 2 ^ 32) → IsApartFrom pivot e
      → (others : List ℕ → List ℕ) → IsApartFrom pivot others → ((t : List ℕ) → seen t ≡ bit_xor (seen_word pivot t) (e t) ∷ others t)
      → IsShown roles (λ t. seen_word pivot t ∷ others t) → IsShown roles seen
