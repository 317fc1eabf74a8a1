-- The rule on leaves and forms: what is seen is the words of the tape at some places, the leaves, and the values of expressions, the forms. A
-- place is silent if its two values, as forms, come down to leaves and forms that leave out a share of each secret.
use Rattle.std.specs.Prelude.{◌≡◌, ◌≢◌, ℕ, ◌+◌, ◌^◌, ◌<◌, true, List, [], ◌∷◌, ◌++◌, map, All, length, slice_get, Some, bit_xor}
use Rattle.isa_model.specs.declared.latch.Latch.{Latch}
use Rattle.isa_model.specs.declared.task.Task.{Task}
use Rattle.isa_model.specs.declared.instr.Alu.TheVariants.{Add, Sub}
use Rattle.isa_model.specs.Arithmetic.{alu_of}
use Rattle.isa_model.specs.AloneValue.{alone_value}
use Rattle.masked_worlds.specs.declared.role.Role.{Role}
use Rattle.masked_worlds.specs.declared.role.Role.TheVariants.{Share}
use Rattle.masked_worlds.specs.declared.pivot.Pivot.{Pivot}
use Rattle.masked_worlds.specs.declared.pivot.Pivot.TheVariants.{AtMask, AtShares}
use Rattle.masked_worlds.specs.Tapes.{is_tape}
use Rattle.masked_worlds.specs.Secrets.{secret_count, TellsNothing}
use Rattle.masked_worlds.specs.Changes.{word_at, IsApart, IsPivot, place_of, IsApartFrom}
use Rattle.masked_worlds.specs.Places.{with_tape, shown, IsSilent}

-- the values of forms, and what leaves and forms show
abbrev pub values : List (List ℕ → ℕ) → List ℕ → List ℕ
values forms t = map (λ form. form t) forms

abbrev pub shows : List ℕ → List (List ℕ → ℕ) → List ℕ → List ℕ × List ℕ
shows leaves forms t = (map (λ leaf. word_at t leaf) leaves, values forms t)

abbrev pub TellNothing : List Role → List ℕ → List ℕ → List (List ℕ → ℕ) → Type 0
TellNothing roles words leaves forms = TellsNothing roles words (shows leaves forms)

-- a leaf is neither the pivot's place nor its partner
abbrev pub IsOff : Pivot → ℕ → Type 0
IsOff (AtMask place) leaf = leaf ≢ place
IsOff (AtShares place partner) leaf = (leaf ≢ place) × (leaf ≢ partner)

-- Other forms may be taken that, with the leaves, determine these.
abbrev pub FormsAreDetermined : Type 0
FormsAreDetermined = (roles : List Role) (words leaves : List ℕ) (forms others : List (List ℕ → ℕ)) (from : List ℕ → List ℕ → List ℕ)
    → ((t : List ℕ) → is_tape roles words t ≡ true → values forms t ≡ from (map (λ leaf. word_at t leaf) leaves) (values others t))
    → TellNothing roles words leaves others → TellNothing roles words leaves forms

-- So may a form be replaced by other ones, none or some, that determine it together with the leaves and the forms that stay: by its operands, or
-- by its sum with another form.
abbrev pub FormIsReplaced : Type 0
FormIsReplaced = (roles : List Role) (words leaves : List ℕ) (front new back : List (List ℕ → ℕ)) (form : List ℕ → ℕ)
    (from : List ℕ → List ℕ → List ℕ → List ℕ → ℕ)
    → ((t : List ℕ) → is_tape roles words t ≡ true
    → form t ≡ from (map (λ leaf. word_at t leaf) leaves) (values front t) (values new t) (values back t))
    → TellNothing roles words leaves (front ++ (new ++ back)) → TellNothing roles words leaves (front ++ form ∷ back)

-- A form that is a pivot's word with another one added may be cut, if nothing else hangs on the pivot or its partner: its place is a leaf.
abbrev pub FormIsCut : Type 0
FormIsCut = (roles : List Role) (words : List ℕ) → length roles ≡ length words → (pivot : Pivot) → IsPivot roles pivot
    → (leaves : List ℕ) → All (IsOff pivot) leaves
    → (front back : List (List ℕ → ℕ)) → All (IsApartFrom pivot) front → All (IsApartFrom pivot) back
    → (form e : List ℕ → ℕ) → ((t : List ℕ) → is_tape roles words t ≡ true → form t ≡ bit_xor (word_at t (place_of pivot)) (e t))
    → ((t : List ℕ) → is_tape roles words t ≡ true → e t < 2 ^ 32) → IsApartFrom pivot e
    → TellNothing roles words (place_of pivot ∷ leaves) (front ++ back) → TellNothing roles words leaves (front ++ form ∷ back)

-- So may one, as by a linear image of the pivot, whose value is that of a form of the pivot's word alone after a word is added there.
abbrev pub FormIsShifted : Type 0
FormIsShifted = (roles : List Role) (words : List ℕ) → length roles ≡ length words → (pivot : Pivot) → IsPivot roles pivot
    → (leaves : List ℕ) → All (IsOff pivot) leaves
    → (front back : List (List ℕ → ℕ)) → All (IsApartFrom pivot) front → All (IsApartFrom pivot) back
    → (form d : List ℕ → ℕ) (image : ℕ → ℕ)
    → ((t : List ℕ) → is_tape roles words t ≡ true → form t ≡ image (bit_xor (word_at t (place_of pivot)) (d t)))
    → ((t : List ℕ) → is_tape roles words t ≡ true → d t < 2 ^ 32) → IsApartFrom pivot d
    → TellNothing roles words (place_of pivot ∷ leaves) (front ++ back) → TellNothing roles words leaves (front ++ form ∷ back)

-- For each tape a bijection of the words of 32 bits, there and back, that hangs neither on a pivot nor on its partner.
pub record AreTurns (roles : List Role) (words : List ℕ) (pivot : Pivot) (turn back : List ℕ → ℕ → ℕ) : Type 0 where
  pub low : (t : List ℕ) (x : ℕ) → is_tape roles words t ≡ true → x < 2 ^ 32 → turn t x < 2 ^ 32
  pub low_back : (t : List ℕ) (x : ℕ) → is_tape roles words t ≡ true → x < 2 ^ 32 → back t x < 2 ^ 32
  pub undone : (t : List ℕ) (x : ℕ) → is_tape roles words t ≡ true → x < 2 ^ 32 → back t (turn t x) ≡ x
  pub redone : (t : List ℕ) (x : ℕ) → is_tape roles words t ≡ true → x < 2 ^ 32 → turn t (back t x) ≡ x
  pub apart : (x : ℕ) → IsApartFrom pivot (λ t. turn t x)
  pub apart_back : (x : ℕ) → IsApartFrom pivot (λ t. back t x)

-- Two of them, one after the other, are one; and so is a word added (exclusive or) that hangs on neither.
abbrev pub TurnsCompose : Type 0
TurnsCompose = (roles : List Role) (words : List ℕ) (pivot : Pivot) (first first_back second second_back : List ℕ → ℕ → ℕ)
    → AreTurns roles words pivot first first_back → AreTurns roles words pivot second second_back
    → AreTurns roles words pivot (λ t x. second t (first t x)) (λ t x. first_back t (second_back t x))

abbrev pub AddedIsTurn : Type 0
AddedIsTurn = (roles : List Role) (words : List ℕ) (pivot : Pivot) (e : List ℕ → ℕ)
    → ((t : List ℕ) → is_tape roles words t ≡ true → e t < 2 ^ 32) → IsApartFrom pivot e
    → AreTurns roles words pivot (λ t x. bit_xor x (e t)) (λ t x. bit_xor x (e t))

-- Sums and differences with a word that hangs on neither are such bijections.
abbrev pub SumsAreTurns : Type 0
SumsAreTurns = (roles : List Role) (words : List ℕ) (pivot : Pivot) (e : List ℕ → ℕ)
    → ((t : List ℕ) → is_tape roles words t ≡ true → e t < 2 ^ 32) → IsApartFrom pivot e
    → AreTurns roles words pivot (λ t x. alu_of Add x (e t)) (λ t x. alu_of Sub x (e t))
    × AreTurns roles words pivot (λ t x. alu_of Sub x (e t)) (λ t x. alu_of Add x (e t))
    × AreTurns roles words pivot (λ t x. alu_of Sub (e t) x) (λ t x. alu_of Sub (e t) x)

-- So may one that hangs on the pivot through such a bijection, as a sum with it modulo 2^32.
abbrev pub FormIsTurned : Type 0
FormIsTurned = (roles : List Role) (words : List ℕ) → length roles ≡ length words → (pivot : Pivot) → IsPivot roles pivot
    → (leaves : List ℕ) → All (IsOff pivot) leaves
    → (front back : List (List ℕ → ℕ)) → All (IsApartFrom pivot) front → All (IsApartFrom pivot) back
    → (form : List ℕ → ℕ) (turn turn_back : List ℕ → ℕ → ℕ) (image : ℕ → ℕ) → AreTurns roles words pivot turn turn_back
    → ((t : List ℕ) → is_tape roles words t ≡ true → form t ≡ image (turn t (word_at t (place_of pivot))))
    → TellNothing roles words (place_of pivot ∷ leaves) (front ++ back) → TellNothing roles words leaves (front ++ form ∷ back)

-- Leaves and forms that leave out a share of each secret tell nothing.
abbrev pub FormsLeaveOut : Type 0
FormsLeaveOut = (roles : List Role) (words : List ℕ) → length roles ≡ length words
    → (left_out : ℕ → ℕ) → ((k : ℕ) → k < secret_count roles → slice_get roles (left_out k) ≡ Some (Share k))
    → (leaves : List ℕ) → ((k : ℕ) → k < secret_count roles → All (λ leaf. leaf ≢ left_out k) leaves)
    → (forms : List (List ℕ → ℕ)) → ((k : ℕ) → k < secret_count roles → All (λ form. IsApart (left_out k) form) forms)
    → TellNothing roles words leaves forms

-- A place whose two values are forms that tell nothing is silent.
abbrev pub FormsAreSilent : Type 0
FormsAreSilent = (T : Task) (roles : List Role) (n : ℕ) (l : Latch) (was now : List ℕ → ℕ)
    → ((t : List ℕ) → is_tape roles T.tape t ≡ true → alone_value (with_tape T t) n l ≡ was t)
    → ((t : List ℕ) → is_tape roles T.tape t ≡ true → alone_value (with_tape T t) (n + 1) l ≡ now t)
    → TellNothing roles T.tape [] (was ∷ now ∷ []) → IsSilent T roles n l

-- Two places whose values are forms that tell nothing together tell nothing together.
abbrev pub FormsAreSilentTogether : Type 0
FormsAreSilentTogether = (T : Task) (roles : List Role) (n : ℕ) (l : Latch) (m : ℕ) (k : Latch) (was now was_too now_too : List ℕ → ℕ)
    → ((t : List ℕ) → is_tape roles T.tape t ≡ true → alone_value (with_tape T t) n l ≡ was t)
    → ((t : List ℕ) → is_tape roles T.tape t ≡ true → alone_value (with_tape T t) (n + 1) l ≡ now t)
    → ((t : List ℕ) → is_tape roles T.tape t ≡ true → alone_value (with_tape T t) m k ≡ was_too t)
    → ((t : List ℕ) → is_tape roles T.tape t ≡ true → alone_value (with_tape T t) (m + 1) k ≡ now_too t)
    → TellNothing roles T.tape [] (was ∷ now ∷ was_too ∷ now_too ∷ []) → TellsNothing roles T.tape (λ t. shown T n l t ++ shown T m k t)
