-- What a term denotes is a word.
use Rattle.std.proofs.Common.{ℕ, zero, suc, ◌^◌, ◌<◌, List, [], ◌∷◌, ◌++◌, get_or, arith}
use Rattle.tape_terms.specs.declared.term.Term.{Term}
use Rattle.tape_terms.specs.declared.term.Term.TheVariants.{Constant, Word, Of}
use Rattle.tape_terms.specs.Values.{value_in, each_from, ValuesAreWords}
use Rattle.tape_terms.proofs.Ranges.{alu-is_word}

record AreWords (vs : List ℕ) : Type 0 where
  at : (i : ℕ) → get_or vs i 0 < 2 ^ 32

in_word : (tape before : List ℕ) (term : Term) → AreWords before → value_in tape before term < 2 ^ 32
in_word tape before (Constant word) words = omega arith
in_word tape before (Word place) words = omega arith
in_word tape before (Of op a b) words = alu-is_word op (get_or before a 0) (get_or before b 0) (words.at a) (words.at b)

get_more : (vs : List ℕ) (v : ℕ) → AreWords vs → v < 2 ^ 32 → (i : ℕ) → get_or (vs ++ v ∷ []) i 0 < 2 ^ 32
get_more [] v words low zero = low
get_more [] v words low (suc i) = omega arith
get_more (w ∷ vs) v words low zero = words.at 0
get_more (w ∷ vs) v words low (suc i) = get_more vs v (record { at = λ k. words.at (suc k) }) low i

words-more : (vs : List ℕ) (v : ℕ) → AreWords vs → v < 2 ^ 32 → AreWords (vs ++ v ∷ [])
words-more vs v words low = record { at = get_more vs v words low }

words-from : (tape before : List ℕ) (terms : List Term) → AreWords before → AreWords (each_from (value_in tape) before terms)
unfolding each_from
words-from tape before [] words = words
words-from tape before (term ∷ terms) words =
    words-from tape (before ++ value_in tape before term ∷ []) terms (words-more before (value_in tape before term) words (in_word tape before term words))

pub values-are_words : ValuesAreWords
values-are_words terms tape i = (words-from tape [] terms (record { at = λ k. omega arith })).at i
