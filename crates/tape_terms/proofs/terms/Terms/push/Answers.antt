use Rattle.std.proofs.Common.{rules, ◌≡◌, ℕ, List, [], ◌∷◌, ◌++◌, length, sym, ◌∙◌, subst}
use Rattle.tape_terms.specs.declared.term.Term.{Term}
use Rattle.tape_terms.specs.Values.{value_in, values, value_of, Keeps}
use Rattle.tape_terms.proofs.ValueLaws.{value-new, keeps-more}
use Rattle.tape_terms.proofs.terms.Terms.push.Goals as goal

new_value : (old new : List Term) (term : Term) (place : ℕ) → new ≡ old ++ term ∷ [] → place ≡ length old → (tape : List ℕ)
    → value_of new tape place ≡ value_in tape (values old tape) term
new_value old new term place is at tape = (λ i. value_of (is i) tape (at i)) ∙ value-new old term tape

pub returns-clause-value : goal.returns-clause-value
returns-clause-value c = new_value c.args.self.now c.push.new.self.items c.args.term c.len-place.result (search rules) (search rules)

pub returns-clause-others : goal.returns-clause-others
returns-clause-others c = let is : c.push.new.self.items ≡ c.args.self.now ++ c.args.term ∷ [] = search rules in subst (λ (new : List Term). Keeps c.args.self.now new) (sym is) (keeps-more c.args.self.now c.args.term)
