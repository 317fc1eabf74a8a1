-- The places are looked at one after the other.
use Rattle.std.proofs.Common.{◌+◌, Option, below_more, subst, arith}
use Rattle.probe_inspect.specs.declared.columns.Difference.{Difference}
use Rattle.probe_inspect.specs.Columns.{AreAlikeAt, IsFoundAt}
use Rattle.probe_inspect.proofs.columns.difference_from.Goals as goal

pub difference_at-requires-clause-cells : goal.difference_at-requires-clause-cells
difference_at-requires-clause-cells c = c.requires.cells c.loop-i.i c.loop-i-test.true

pub loop-i-preserved : goal.loop-i-preserved
loop-i-preserved c =
    let groups = c.args.groups.now in
    let rows = c.args.rows.now in
    let here : AreAlikeAt groups rows (c.args.from + c.loop-i.i) =
    subst (λ (o : Option Difference). IsFoundAt groups rows (c.args.from + c.loop-i.i) o) c.in_default.is c.in_ok-difference.ensures.found in
    below_more (λ k. AreAlikeAt groups rows (c.args.from + k)) c.loop-i.i c.loop-i.invariant here

pub returns : goal.returns
returns c = record { found = λ k low. c.loop-i.invariant k (omega (arith, low, c.loop-i-test.false)) }
