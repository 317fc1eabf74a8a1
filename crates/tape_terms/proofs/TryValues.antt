-- The definitions on a few terms.
use Rattle.std.proofs.Common.{◌≡◌, true, false, List, [], ◌∷◌, refl}
use Rattle.isa_model.specs.declared.instr.Alu.TheVariants.{Xor, And, Add}
use Rattle.tape_terms.specs.declared.term.Term.{Term}
use Rattle.tape_terms.specs.declared.term.Term.TheVariants.{Constant, Word, Of}
use Rattle.tape_terms.specs.Values.{values, each_from}
use Rattle.tape_terms.specs.Marks.{marks}

some_terms : List Term
some_terms = Word 1 ∷ Constant 12 ∷ Of Xor 0 1 ∷ Of And 2 0 ∷ Of Add 3 3 ∷ []

try-values : values some_terms (7 ∷ 10 ∷ []) ≡ 10 ∷ 12 ∷ 6 ∷ 2 ∷ 4 ∷ []
unfolding each_from some_terms
try-values = refl

try-marks : marks some_terms 1 ≡ true ∷ false ∷ true ∷ true ∷ true ∷ []
unfolding each_from some_terms
try-marks = refl

try-unread : marks some_terms 0 ≡ false ∷ false ∷ false ∷ false ∷ false ∷ []
unfolding each_from some_terms
try-unread = refl
