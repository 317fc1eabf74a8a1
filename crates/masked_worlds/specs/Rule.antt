-- The rule by which it is shown that what is seen of a tape tells nothing of its secrets. Each law goes from other things that tell nothing
-- to these; the last one begins.
use Rattle.std.specs.Prelude.{◌≡◌, ℕ, ◌^◌, ◌<◌, true, List, ◌∷◌, length, slice_get, Some, bit_xor}
use Rattle.masked_worlds.specs.declared.role.Role.{Role}
use Rattle.masked_worlds.specs.declared.role.Role.TheVariants.{Share}
use Rattle.masked_worlds.specs.declared.pivot.Pivot.{Pivot}
use Rattle.masked_worlds.specs.Tapes.{is_tape}
use Rattle.masked_worlds.specs.Secrets.{secret_count, secrets_of, TellsNothing}
use Rattle.masked_worlds.specs.Changes.{IsChange, word_at, IsApart, IsPivot, place_of, shift_by, IsApartFrom}

-- What is determined by things that tell nothing tells nothing.
abbrev pub DeterminedTellsNothing : Type 0
DeterminedTellsNothing = (roles : List Role) (words : List ℕ) (seen other : List ℕ → List ℕ) (from : List ℕ → List ℕ)
    → ((t : List ℕ) → is_tape roles words t ≡ true → seen t ≡ from (other t))
    → TellsNothing roles words other → TellsNothing roles words seen

-- So does what is seen as other things are seen of a changed tape, if the change keeps the secrets.
abbrev pub CarriedTellsNothing : Type 0
CarriedTellsNothing = (roles : List Role) (words : List ℕ) (change back : List ℕ → List ℕ) → IsChange roles words change back
    → ((t : List ℕ) → is_tape roles words t ≡ true → secrets_of roles (change t) ≡ secrets_of roles t)
    → (seen other : List ℕ → List ℕ) → ((t : List ℕ) → is_tape roles words t ≡ true → seen t ≡ other (change t))
    → TellsNothing roles words other → TellsNothing roles words seen

-- Adding at a pivot a word that hangs neither on it nor on its partner is such a change.
abbrev pub ShiftedTellsNothing : Type 0
ShiftedTellsNothing = (roles : List Role) (words : List ℕ) → length roles ≡ length words
    → (pivot : Pivot) → IsPivot roles pivot
    → (d : List ℕ → ℕ) → ((t : List ℕ) → is_tape roles words t ≡ true → d t < 2 ^ 32) → IsApartFrom pivot d
    → (seen other : List ℕ → List ℕ) → ((t : List ℕ) → is_tape roles words t ≡ true → seen t ≡ other (shift_by pivot d t))
    → TellsNothing roles words other → TellsNothing roles words seen

-- So a form that a pivot is added to is cut: the pivot's word stands for it, if neither the rest of the form nor the other forms hang on the
-- pivot or its partner.
abbrev pub CutTellsNothing : Type 0
CutTellsNothing = (roles : List Role) (words : List ℕ) → length roles ≡ length words
    → (pivot : Pivot) → IsPivot roles pivot
    → (e : List ℕ → ℕ) → ((t : List ℕ) → is_tape roles words t ≡ true → e t < 2 ^ 32) → IsApartFrom pivot e
    → (others : List ℕ → List ℕ) → IsApartFrom pivot others
    → TellsNothing roles words (λ t. word_at t (place_of pivot) ∷ others t)
    → TellsNothing roles words (λ t. bit_xor (word_at t (place_of pivot)) (e t) ∷ others t)

-- What hangs, of each secret, on all shares but one tells nothing.
abbrev pub ApartTellsNothing : Type 0
ApartTellsNothing = (roles : List Role) (words : List ℕ) → length roles ≡ length words
    → (left_out : ℕ → ℕ) → ((k : ℕ) → k < secret_count roles → slice_get roles (left_out k) ≡ Some (Share k))
    → (seen : List ℕ → List ℕ) → ((k : ℕ) → k < secret_count roles → IsApart (left_out k) seen)
    → TellsNothing roles words seen
