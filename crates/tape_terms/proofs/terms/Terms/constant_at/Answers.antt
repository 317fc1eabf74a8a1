use Rattle.std.proofs.Common.{rules, ◌≡◌, slice_get, Some}
use Rattle.tape_terms.specs.declared.term.Term.TheVariants.{Constant}
use Rattle.tape_terms.proofs.ValueLaws.{value-unfolds}
use Rattle.tape_terms.proofs.terms.Terms.constant_at.Goals as goal

pub returns-in-Some-Constant : goal.returns-in-Some-Constant
returns-in-Some-Constant c =
    let is : slice_get c.args.self.now c.args.i ≡ Some (Constant c.in-Some-Constant.word) = search rules in
    record { value = value-unfolds c.args.self.now c.args.i (Constant c.in-Some-Constant.word) is tt }
