-- Forms: lists of terms, each of which stands for the exclusive or of what its terms denote.
use Rattle.std.specs.Prelude.{◌≡◌, ◌≢◌, ℕ, ◌<◌, Bool, false, List, [], ◌∷◌, map, length, get_or, set, bit_xor}
use Rattle.tape_terms.specs.declared.term.Term.{Term}
use Rattle.tape_terms.specs.Values.{values, value_of}
use Rattle.masked_worlds.specs.declared.role.Role.{Role}
use Rattle.masked_worlds.specs.Changes.{IsPivot, IsApartFrom}
use Rattle.masked_check.specs.Shown.{seen_word, IsShown}
use Rattle.masked_worlds.specs.declared.pivot.Pivot.{Pivot}

-- what a form stands for, by the values of the terms
abbrev pub form_value : List ℕ → List ℕ → ℕ
form_value vs [] = 0
form_value vs (a ∷ rest) = bit_xor (get_or vs a 0) (form_value vs rest)

abbrev pub value_on : List Term → List ℕ → List ℕ → ℕ
value_on terms t form = form_value (values terms t) form

-- what forms show of a tape
abbrev pub seen : List Term → List (List ℕ) → List ℕ → List ℕ
seen terms forms t = map (value_on terms t) forms

-- It is shown of one list of forms, if it is of another.
abbrev pub Leads : List Role → List Term → List (List ℕ) → List (List ℕ) → Type 0
Leads roles terms old new = IsShown roles (seen terms new) → IsShown roles (seen terms old)

-- No term of a form reads the place of a column.
abbrev pub IsUnread : List Bool → List ℕ → Type 0
IsUnread column form = (k : ℕ) → k < length form → get_or column (get_or form k 0) false ≡ false

-- No form reads it, or none but the one at a place.
abbrev pub AreUnread : List Bool → List (List ℕ) → Type 0
AreUnread column forms = (j : ℕ) → j < length forms → IsUnread column (get_or forms j [])

abbrev pub OthersAreUnread : List Bool → List (List ℕ) → ℕ → Type 0
OthersAreUnread column forms i = (j : ℕ) → j < length forms → j ≢ i → IsUnread column (get_or forms j [])

-- A form may be cut at a place: a term is the pivot's word, and neither the rest of the form nor the other forms hang on the pivot.
pub record MayCut (roles : List Role) (terms : List Term) (forms : List (List ℕ)) (i m : ℕ) (rest : List ℕ) (pivot : Pivot) : Type 0 where
  pub is : IsPivot roles pivot
  pub word : (t : List ℕ) → value_of terms t m ≡ seen_word pivot t
  pub rest_apart : IsApartFrom pivot (λ t. value_on terms t rest)
  pub others_apart : IsApartFrom pivot (seen terms (set forms i []))
