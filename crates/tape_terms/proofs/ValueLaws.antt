-- Laws of what terms denote.
use Rattle.std.proofs.Common.{◌≡◌, ℕ, zero, suc, ◌+◌, ◌<◌, List, [], ◌∷◌, ◌++◌, length, get_or, slice_get, Some, refl, ap, sym, ◌∙◌, subst, arith}
use Rattle.std.proofs.lemmas.List.{get_or_append_left, get_or_at}
use Rattle.tape_terms.specs.declared.term.Term.{Term}
use Rattle.tape_terms.proofs.EachLaws.{length-one_more, each-length, each-more, from-keeps}
use Rattle.tape_terms.specs.declared.term.Term.TheVariants.{Constant, Word, Of}
use Rattle.tape_terms.specs.Values.{value_in, each_from, values, value_of, IsAfter, AreInOrder, Keeps, TermsUnfold}

pub values-length : (terms : List Term) (tape : List ℕ) → length (values terms tape) ≡ length terms
values-length terms tape = each-length (value_in tape) terms

-- one term more is one value more
pub values-more : (terms : List Term) (term : Term) (tape : List ℕ)
    → values (terms ++ term ∷ []) tape ≡ values terms tape ++ value_in tape (values terms tape) term ∷ []
values-more terms term tape = each-more (value_in tape) terms term

pub value-old : (terms : List Term) (term : Term) (tape : List ℕ) (i : ℕ) → i < length terms → value_of (terms ++ term ∷ []) tape i ≡ value_of terms tape i
value-old terms term tape i low =
    ap (λ (vs : List ℕ). get_or vs i 0) (values-more terms term tape)
    ∙ get_or_append_left (values terms tape) (value_in tape (values terms tape) term ∷ []) 0 i (let long = values-length terms tape in omega arith)

pub value-new : (terms : List Term) (term : Term) (tape : List ℕ) → value_of (terms ++ term ∷ []) tape (length terms) ≡ value_in tape (values terms tape) term
value-new terms term tape =
    ap (λ (vs : List ℕ). get_or vs (length terms) 0) (values-more terms term tape)
    ∙ get_or_at (values terms tape) (value_in tape (values terms tape) term) [] 0 (length terms) (values-length terms tape)

-- A term denotes what it is of the values of the list, if its operands stand before it.
in_by : (tape vs ws : List ℕ) (i : ℕ) (term : Term) → IsAfter i term → ((k : ℕ) → k < i → get_or vs k 0 ≡ get_or ws k 0) → value_in tape vs term ≡ value_in tape ws term
in_by tape vs ws i (Constant word) after same = refl
in_by tape vs ws i (Word place) after same = refl
in_by tape vs ws i (Of op a b) after same = let first = same a after.0 in let second = same b after.1 in cc

from-unfolds : (tape before : List ℕ) (xs : List Term) (j i : ℕ) (term : Term) → slice_get xs j ≡ Some term → length before + j ≡ i → IsAfter i term
    → get_or (each_from (value_in tape) before xs) i 0 ≡ value_in tape (each_from (value_in tape) before xs) term
unfolding each_from
from-unfolds tape before [] j i term is at after = cc
from-unfolds tape before (x ∷ xs) zero i term is at after =
    let new = value_in tape before x in
    let more = length-one_more before new in
    let here : x ≡ term = cc in
    from-keeps (value_in tape) 0 (before ++ new ∷ []) xs i (omega arith)
    ∙ get_or_at before new [] 0 i (omega arith)
    ∙ ap (value_in tape before) here
    ∙ sym (in_by tape (each_from (value_in tape) (before ++ new ∷ []) xs) before i term after (λ k low.
    from-keeps (value_in tape) 0 (before ++ new ∷ []) xs k (omega arith) ∙ get_or_append_left before (new ∷ []) 0 k (omega arith)))
from-unfolds tape before (x ∷ xs) (suc j) i term is at after =
    let more = length-one_more before (value_in tape before x) in
    from-unfolds tape (before ++ value_in tape before x ∷ []) xs j i term is (omega arith) after

pub value-unfolds : TermsUnfold
value-unfolds terms i term is after tape = from-unfolds tape [] terms i i term is (omega arith) after

-- order stays where a term comes after its operands
order_from : (xs : List Term) (n : ℕ) (x : Term) → ((j : ℕ) (y : Term) → slice_get xs j ≡ Some y → IsAfter (n + j) y) → IsAfter (n + length xs) x
    → (j : ℕ) (y : Term) → slice_get (xs ++ x ∷ []) j ≡ Some y → IsAfter (n + j) y
order_from [] n x order after zero y is = let same : x ≡ y = cc in subst (λ (z : Term). IsAfter (n + 0) z) same after
order_from [] n x order after (suc j) y is = cc
order_from (z ∷ xs) n x order after zero y is = order zero y is
order_from (z ∷ xs) n x order after (suc j) y is =
    let shift : (k : ℕ) → n + suc k ≡ suc n + k = λ k. omega arith in
    subst (λ (m : ℕ). IsAfter m y) (sym (shift j))
    (order_from xs (suc n) x (λ k w there. subst (λ (m : ℕ). IsAfter m w) (shift k) (order (suc k) w there)) (subst (λ (m : ℕ). IsAfter m x) (shift (length xs)) after) j y is)

pub order-more : (terms : List Term) (term : Term) → AreInOrder terms → IsAfter (length terms) term → AreInOrder (terms ++ term ∷ [])
order-more terms term order after j y is =
    let from_zero : (m : ℕ) → 0 + m ≡ m = λ m. omega arith in
    subst (λ (m : ℕ). IsAfter m y) (from_zero j)
    (order_from terms 0 term (λ k w there. subst (λ (m : ℕ). IsAfter m w) (sym (from_zero k)) (order k w there)) (subst (λ (m : ℕ). IsAfter m term) (sym (from_zero (length terms))) after) j y is)

pub keeps-self : (terms : List Term) → Keeps terms terms
keeps-self terms = record { longer = omega arith; values = λ tape i low. refl }

pub keeps-more : (terms : List Term) (term : Term) → Keeps terms (terms ++ term ∷ [])
keeps-more terms term = record { longer = (let more = length-one_more terms term in omega arith); values = λ tape i low. value-old terms term tape i low }
