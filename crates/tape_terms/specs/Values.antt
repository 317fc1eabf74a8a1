-- What terms denote on a tape.
use Rattle.std.specs.Prelude.{◌≡◌, ℕ, ◌^◌, ◌<◌, ◌≤◌, length, List, [], ◌∷◌, ◌++◌, get_or, slice_get, Some}
use Rattle.isa_model.specs.Bits.{low_word}
use Rattle.isa_model.specs.Arithmetic.{alu_of}
use Rattle.tape_terms.specs.declared.term.Term.{Term}
use Rattle.tape_terms.specs.declared.term.Term.TheVariants.{Constant, Word, Of}

-- what a term denotes on a tape, by what the terms before it denote
abbrev pub value_in : List ℕ → List ℕ → Term → ℕ
value_in tape before (Constant word) = low_word word
value_in tape before (Word place) = low_word (get_or tape place 0)
value_in tape before (Of op a b) = alu_of op (get_or before a 0) (get_or before b 0)

-- what is made of each term, by what was made of the terms before it
unfoldable pub each_from : {X : Type 0} → (List X → Term → X) → List X → List Term → List X
each_from make before [] = before
each_from make before (term ∷ terms) = each_from make (before ++ make before term ∷ []) terms

-- what all terms denote
abbrev pub values : List Term → List ℕ → List ℕ
values terms tape = each_from (value_in tape) [] terms

-- what the term at a place denotes, and 0 where there is none
abbrev pub value_of : List Term → List ℕ → ℕ → ℕ
value_of terms tape i = get_or (values terms tape) i 0

-- Each term stands after its operands.
abbrev pub IsAfter : ℕ → Term → Type 0
IsAfter i (Constant word) = Unit {0}
IsAfter i (Word place) = Unit {0}
IsAfter i (Of op a b) = (a < i) × (b < i)

abbrev pub AreInOrder : List Term → Type 0
AreInOrder terms = (i : ℕ) (term : Term) → slice_get terms i ≡ Some term → IsAfter i term

-- The terms that were there still are, and denote what they denoted.
pub record Keeps (old new : List Term) : Type 0 where
  pub longer : length old ≤ length new
  pub values : (tape : List ℕ) (i : ℕ) → i < length old → value_of new tape i ≡ value_of old tape i

-- What a term denotes is a word.
abbrev pub ValuesAreWords : Type 0
ValuesAreWords = (terms : List Term) (tape : List ℕ) (i : ℕ) → value_of terms tape i < 2 ^ 32

-- A term denotes what it is of what its operands denote, if they stand before it.
abbrev pub TermsUnfold : Type 0
TermsUnfold = (terms : List Term) (i : ℕ) (term : Term) → slice_get terms i ≡ Some term → IsAfter i term
    → (tape : List ℕ) → value_of terms tape i ≡ value_in tape (values terms tape) term
