use Rattle.std.proofs.Common.{rules, ◌≡◌, ℕ, zero, suc, ◌⊎◌, inl, inr, Bool, List, [], ◌∷◌, ◌++◌, length, slice_get, Some, ap, sym, ◌∙◌, subst, arith}
use Rattle.tape_terms.specs.declared.term.Term.{Term}
use Rattle.tape_terms.specs.Marks.{marks, AreColumns}
use Rattle.tape_terms.proofs.EachLaws.{length-one_more}
use Rattle.tape_terms.proofs.column.columns.Goals as goal

-- what stands in a list with one item more
in_more : {X : Type 0} (xs : List X) (x y : X) (j : ℕ) → slice_get (xs ++ x ∷ []) j ≡ Some y → (slice_get xs j ≡ Some y) ⊎ ((j ≡ length xs) × (x ≡ y))
in_more [] x y zero is = inr (omega arith, cc)
in_more [] x y (suc j) is = cc
in_more (z ∷ xs) x y zero is = inl is
in_more (z ∷ xs) x y (suc j) is = elim (in_more xs x y j is) [ inl there ↦ inl there | inr last ↦ inr ((let at = last.0 in omega arith), last.1) ]

more : (terms : List Term) (columns : List (List Bool)) (column : List Bool) (place : ℕ) → AreColumns terms columns → length columns ≡ place
    → column ≡ marks terms place → AreColumns terms (columns ++ column ∷ [])
more terms columns column place are long is j y at =
    elim (in_more columns column y j at) [
      | inl there ↦ are j y there
      | inr last ↦ sym last.1 ∙ is ∙ ap (marks terms) (sym (last.0 ∙ long))
    ]

pub loop-place-init : goal.loop-place-init
loop-place-init c =
    let none : c.new-columns.result.items ≡ [] = search rules in
    record {
      are = subst (λ (cs : List (List Bool)). AreColumns c.args.terms.now cs) (sym none) (λ place column is. cc);
      long = ap (length {A = List Bool}) none;
    }

pub loop-place-preserved : goal.loop-place-preserved
loop-place-preserved c =
    let longer : c.push.new.self.items ≡ c.loop-place.columns.items ++ c.in_ok-column.column ∷ [] = search rules in
    record {
      are = subst (λ (cs : List (List Bool)). AreColumns c.args.terms.now cs) (sym longer)
          (more c.args.terms.now c.loop-place.columns.items c.in_ok-column.column c.loop-place.place c.loop-place.invariant.are c.loop-place.invariant.long (search rules));
      long = ap (length {A = List Bool}) longer ∙ (let one = length-one_more c.loop-place.columns.items c.in_ok-column.column in let long = c.loop-place.invariant.long in omega arith);
    }
