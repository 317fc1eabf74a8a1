use Rattle.std.proofs.Common.{rules, ◌≡◌, ℕ, true, List, ap, ◌∙◌}
use Rattle.isa_model.specs.Arithmetic.{alu_of}
use Rattle.isa_model.specs.declared.instr.Alu.{Alu}
use Rattle.tape_terms.specs.declared.term.Term.{Term}
use Rattle.tape_terms.specs.Values.{value_of}
use Rattle.tape_terms.specs.Kept.{keeps_second}
use Rattle.tape_terms.proofs.KeptLaws.{second-kept}
use Rattle.tape_terms.proofs.WordLaws.{values-are_words}
use Rattle.tape_terms.proofs.terms.Terms.gives_second.Goals as goal

zero_kept : (terms : List Term) (op : Alu) (a b : ℕ) → keeps_second op ≡ true → ((tape : List ℕ) → value_of terms tape a ≡ 0) → (tape : List ℕ)
    → alu_of op (value_of terms tape a) (value_of terms tape b) ≡ value_of terms tape b
zero_kept terms op a b kept zero tape =
    ap (λ (v : ℕ). alu_of op v (value_of terms tape b)) (zero tape) ∙ second-kept op kept (value_of terms tape b) (values-are_words terms tape b)

pub returns : goal.returns
returns c = record { second = λ yes. zero_kept c.args.self.now c.args.op c.args.a c.args.b (search rules) (c.is_zero.ensures.zero yes) }
