-- Which terms hang on a place of the tape.
use Rattle.std.specs.Prelude.{◌≡◌, ℕ, Bool, false, ◌||◌, ◌==◌, List, [], get_or, set, slice_get, Some}
use Rattle.tape_terms.specs.declared.term.Term.{Term}
use Rattle.tape_terms.specs.declared.term.Term.TheVariants.{Constant, Word, Of}
use Rattle.tape_terms.specs.Values.{each_from, value_of}

-- whether a term reads a place, itself or by its operands
abbrev pub mark_in : ℕ → List Bool → Term → Bool
mark_in place before (Constant word) = false
mark_in place before (Word at) = at == place
mark_in place before (Of op a b) = get_or before a false || get_or before b false

abbrev pub marks : List Term → ℕ → List Bool
marks terms place = each_from (mark_in place) [] terms

abbrev pub reads : List Term → ℕ → ℕ → Bool
reads terms place i = get_or (marks terms place) i false

-- What is made of a tape doesn't hang on its word at a place.
abbrev pub IsApart : {X : Type 0} → ℕ → (List ℕ → X) → Type 0
IsApart {X} place f = (t : List ℕ) (x : ℕ) → f (set t place x) ≡ f t

-- Where a term reads a place nowhere, it denotes the same on tapes that differ only there.
abbrev pub UnreadIsApart : Type 0
UnreadIsApart = (terms : List Term) (place i : ℕ) → reads terms place i ≡ false → IsApart place (λ t. value_of terms t i)

-- a list of columns: each has the marks of its place
abbrev pub AreColumns : List Term → List (List Bool) → Type 0
AreColumns terms columns = (place : ℕ) (column : List Bool) → slice_get columns place ≡ Some column → column ≡ marks terms place
