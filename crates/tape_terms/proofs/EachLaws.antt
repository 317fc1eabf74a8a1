-- Laws of what is made of each term by what was made of the terms before it.
use Rattle.std.proofs.Common.{◌≡◌, ℕ, suc, ◌+◌, ◌<◌, List, [], ◌∷◌, ◌++◌, length, get_or, take, refl, ap, ◌∙◌, arith, length-append}
use Rattle.std.proofs.lemmas.List.{get_or_append_left, take_more}
use Rattle.tape_terms.specs.declared.term.Term.{Term}
use Rattle.tape_terms.specs.Values.{each_from}

-- a list with one item more
pub length-one_more : {X : Type 0} (xs : List X) (x : X) → length (xs ++ x ∷ []) ≡ suc (length xs)
length-one_more xs x = omega (arith, length-append xs (x ∷ []))

module _ {X : Type 0} (make : List X → Term → X) where
  pub from-append : (before : List X) (xs ys : List Term) → each_from make before (xs ++ ys) ≡ each_from make (each_from make before xs) ys
  unfolding each_from
  from-append before [] ys = refl
  from-append before (x ∷ xs) ys = from-append (before ++ make before x ∷ []) xs ys

  pub from-length : (before : List X) (xs : List Term) → length (each_from make before xs) ≡ length before + length xs
  unfolding each_from
  from-length before [] = omega arith
  from-length before (x ∷ xs) =
      let rest = from-length (before ++ make before x ∷ []) xs in
      let more = length-one_more before (make before x) in
      omega arith

  pub each-length : (terms : List Term) → length (each_from make [] terms) ≡ length terms
  each-length terms = let from = from-length [] terms in omega arith

  -- one term more is one item more
  pub each-more : (terms : List Term) (term : Term)
      → each_from make [] (terms ++ term ∷ []) ≡ each_from make [] terms ++ make (each_from make [] terms) term ∷ []
  unfolding each_from
  each-more terms term = from-append [] terms (term ∷ [])

  pub each-take : (terms : List Term) (i : ℕ) (d : Term) → i < length terms
      → each_from make [] (take (i + 1) terms) ≡ each_from make [] (take i terms) ++ make (each_from make [] (take i terms)) (get_or terms i d) ∷ []
  each-take terms i d low = ap (each_from make []) (take_more terms i d low) ∙ each-more (take i terms) (get_or terms i d)

  -- the items that were there stay
  pub from-keeps : (d : X) (before : List X) (xs : List Term) (i : ℕ) → i < length before → get_or (each_from make before xs) i d ≡ get_or before i d
  unfolding each_from
  from-keeps d before [] i low = refl
  from-keeps d before (x ∷ xs) i low =
      let more = length-one_more before (make before x) in
      from-keeps d (before ++ make before x ∷ []) xs i (omega arith)
      ∙ get_or_append_left before (make before x ∷ []) d i low
