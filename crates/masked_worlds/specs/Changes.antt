-- Changes of tapes: what they keep, and where words may be added without a change of any secret.
use Rattle.std.specs.Prelude.{◌≡◌, ◌≢◌, ℕ, Bool, true, false, List, get_or, set, slice_get, Some, bit_xor, count_by}
use Rattle.masked_worlds.specs.declared.role.Role.{Role}
use Rattle.masked_worlds.specs.declared.role.Role.TheVariants.{Mask, Share}
use Rattle.masked_worlds.specs.declared.pivot.Pivot.{Pivot}
use Rattle.masked_worlds.specs.declared.pivot.Pivot.TheVariants.{AtMask, AtShares}
use Rattle.masked_worlds.specs.Tapes.{tapes, is_tape}

-- A change makes a tape of a tape, and another one takes it back.
pub record IsChange (roles : List Role) (words : List ℕ) (change back : List ℕ → List ℕ) : Type 0 where
  pub keeps : (t : List ℕ) → is_tape roles words t ≡ true → is_tape roles words (change t) ≡ true
  pub keeps_back : (t : List ℕ) → is_tape roles words t ≡ true → is_tape roles words (back t) ≡ true
  pub undone : (t : List ℕ) → is_tape roles words t ≡ true → back (change t) ≡ t
  pub redone : (t : List ℕ) → is_tape roles words t ≡ true → change (back t) ≡ t

-- Whatever may be asked of a tape is so of as many tapes as of changed ones.
abbrev pub ChangesPermute : Type 0
ChangesPermute = (roles : List Role) (words : List ℕ) (change back : List ℕ → List ℕ) → IsChange roles words change back
    → (is_so : List ℕ → Bool) → count_by is_so (tapes roles words) ≡ count_by (λ t. is_so (change t)) (tapes roles words)

-- the word at a place of a tape
abbrev pub word_at : List ℕ → ℕ → ℕ
word_at t place = get_or t place 0

-- a word added (exclusive or) at a place
abbrev pub shift : ℕ → (List ℕ → ℕ) → List ℕ → List ℕ
shift place d t = set t place (bit_xor (word_at t place) (d t))

-- What is made of a tape doesn't hang on its word at a place.
abbrev pub IsApart : {X : Type 0} → ℕ → (List ℕ → X) → Type 0
IsApart {X} place f = (t : List ℕ) (x : ℕ) → f (set t place x) ≡ f t

-- A pivot is a mask, or a share with its partner, another share of the same secret.
abbrev pub IsPivot : List Role → Pivot → Type 0
IsPivot roles (AtMask place) = slice_get roles place ≡ Some Mask
IsPivot roles (AtShares place partner) =
    (k : ℕ) × (slice_get roles place ≡ Some (Share k)) × (slice_get roles partner ≡ Some (Share k)) × (partner ≢ place)

-- the place where a word is to be seen, and a word added there, and to the partner
abbrev pub place_of : Pivot → ℕ
place_of (AtMask place) = place
place_of (AtShares place partner) = place

abbrev pub shift_by : Pivot → (List ℕ → ℕ) → List ℕ → List ℕ
shift_by (AtMask place) d t = shift place d t
shift_by (AtShares place partner) d t = shift partner d (shift place d t)

-- what is made of a tape hangs on neither
abbrev pub IsApartFrom : {X : Type 0} → Pivot → (List ℕ → X) → Type 0
IsApartFrom {X} (AtMask place) f = IsApart place f
IsApartFrom {X} (AtShares place partner) f = IsApart place f × IsApart partner f

-- What is made of a tape hangs on the words at some places alone; so it hangs on no other.
abbrev pub HangsOn : {X : Type 0} → (ℕ → Bool) → (List ℕ → X) → Type 0
HangsOn {X} support f = (t u : List ℕ) → ((place : ℕ) → support place ≡ true → word_at t place ≡ word_at u place) → f t ≡ f u

abbrev pub OthersAreApart : Type 0
OthersAreApart = (support : ℕ → Bool) (f : List ℕ → ℕ) → HangsOn support f → (place : ℕ) → support place ≡ false → IsApart place f
