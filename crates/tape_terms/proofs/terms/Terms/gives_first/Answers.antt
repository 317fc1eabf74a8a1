use Rattle.std.proofs.Common.{rules, ◌≡◌, ℕ, true, List, ap, sym, ◌∙◌}
use Rattle.isa_model.specs.Arithmetic.{alu_of}
use Rattle.isa_model.specs.declared.instr.Alu.{Alu}
use Rattle.tape_terms.specs.declared.term.Term.{Term}
use Rattle.tape_terms.specs.Values.{value_of}
use Rattle.tape_terms.specs.Kept.{keeps_first, keeps_both}
use Rattle.tape_terms.proofs.KeptLaws.{first-kept, both-kept}
use Rattle.tape_terms.proofs.WordLaws.{values-are_words}
use Rattle.tape_terms.proofs.terms.Terms.gives_first.Goals as goal

twice : (terms : List Term) (op : Alu) (a b : ℕ) → a ≡ b → keeps_both op ≡ true → (tape : List ℕ)
    → alu_of op (value_of terms tape a) (value_of terms tape b) ≡ value_of terms tape a
twice terms op a b same kept tape =
    ap (λ (i : ℕ). alu_of op (value_of terms tape a) (value_of terms tape i)) (sym same) ∙ both-kept op kept (value_of terms tape a)

zero_kept : (terms : List Term) (op : Alu) (a b : ℕ) → keeps_first op ≡ true → ((tape : List ℕ) → value_of terms tape b ≡ 0) → (tape : List ℕ)
    → alu_of op (value_of terms tape a) (value_of terms tape b) ≡ value_of terms tape a
zero_kept terms op a b kept zero tape =
    ap (alu_of op (value_of terms tape a)) (zero tape) ∙ first-kept op kept (value_of terms tape a) (values-are_words terms tape a)

pub returns-then-a-b : goal.returns-then-a-b
returns-then-a-b c = record { first = λ yes. twice c.args.self.now c.args.op c.args.a c.args.b (search rules) (sym c.are_both_kept.ensures.test ∙ yes) }

pub returns : goal.returns
returns c = record { first = λ yes. zero_kept c.args.self.now c.args.op c.args.a c.args.b (search rules) (c.is_zero.ensures.zero yes) }
