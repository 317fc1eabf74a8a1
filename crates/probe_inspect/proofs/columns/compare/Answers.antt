-- The least difference of two lists, and where there is none.
use Rattle.std.proofs.Common.{sym, ◌∙◌}
use Rattle.probe_inspect.specs.declared.columns.Difference.{Difference}
use Rattle.probe_inspect.proofs.Pairs.{often-same, difference-is}
use Rattle.probe_inspect.proofs.columns.compare.Goals as goal

pub returns-in-None-clause-none : goal.returns-in-None-clause-none
returns-in-None-clause-none c = λ z.
    sym (often-same z c.args.other.now) ∙ sym (c.in-None.ensures.none z) ∙ often-same z c.args.first.now

pub returns-in-Some-clause-some : goal.returns-in-Some-clause-some
returns-in-Some-clause-some c =
    let d : Difference =
    record { secret = c.args.secret; change = c.in-Some.change; count_first = c.count_of.result; count_other = c.count_of-in-Some.result } in
    difference-is c.args.first.now c.args.other.now d c.in-Some.ensures.some c.count_of.ensures.count c.count_of-in-Some.ensures.count
