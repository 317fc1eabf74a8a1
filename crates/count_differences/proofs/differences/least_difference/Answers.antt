use Rattle.std.proofs.Common.{◌≡◌, length, get_or, ◌<◌, arith, sym, ap, ◌∙◌, subst, Less, Greater}
use Rattle.count_differences.specs.Differences.{IsLeastDifference}
use Rattle.count_differences.proofs.Least.{ascending-from, first-differs, first-differs-back, all-tie, get-default}
use Rattle.count_differences.proofs.differences.least_difference.Goals as goal

pub returns-in-Less-clause-some : goal.returns-in-Less-clause-some
returns-in-Less-clause-some g c =
    let cmp = g.T.Ord.cmp in
    let total = g.met.T.Ord.total in
    let xs = c.args.xs.now in
    let ys = c.args.ys.now in
    let at = c.loop-at.at in
    let x = c.index-xs-at.result in
    let y = c.index-ys-at.result in
    let low = c.loop-at-test.true in
    let inv = c.loop-at.invariant in
    let high : at < length ys = omega (arith, low, inv.1) in
    let less : cmp (get_or xs at x) (get_or ys at x) ≡ Less =
    ap (λ u. cmp u (get_or ys at x)) (sym c.index-xs-at.is) ∙ ap (λ v. cmp x v) (get-default ys at x y high ∙ sym c.index-ys-at.is)
    ∙ sym c.cmp.ensures ∙ c.in-Less.is in
    subst (λ u. IsLeastDifference cmp xs ys u) (sym c.index-xs-at.is)
    (first-differs cmp total xs ys at x (ascending-from cmp total xs c.requires.first) (ascending-from cmp total ys c.requires.second) low high inv.2 less)

pub returns-in-Greater-clause-some : goal.returns-in-Greater-clause-some
returns-in-Greater-clause-some g c =
    let cmp = g.T.Ord.cmp in
    let total = g.met.T.Ord.total in
    let xs = c.args.xs.now in
    let ys = c.args.ys.now in
    let at = c.loop-at.at in
    let x = c.index-xs-at.result in
    let y = c.index-ys-at.result in
    let low = c.loop-at-test.true in
    let inv = c.loop-at.invariant in
    let high : at < length ys = omega (arith, low, inv.1) in
    let over : cmp (get_or xs at y) (get_or ys at y) ≡ Greater =
    ap (λ u. cmp u (get_or ys at y)) (get-default xs at y x low ∙ sym c.index-xs-at.is) ∙ ap (λ v. cmp x v) (sym c.index-ys-at.is)
    ∙ sym c.cmp.ensures ∙ c.in-Greater.is in
    subst (λ u. IsLeastDifference cmp xs ys u) (sym c.index-ys-at.is)
    (first-differs-back cmp total xs ys at y (ascending-from cmp total xs c.requires.first) (ascending-from cmp total ys c.requires.second) low high inv.2 over)

pub returns-clause-none : goal.returns-clause-none
returns-clause-none g c =
    let past = c.loop-at-test.false in
    let inv = c.loop-at.invariant in
    all-tie g.T.Ord.cmp g.met.T.Ord.total c.args.xs.now c.args.ys.now inv.1 (λ k d under. inv.2 k d (omega (arith, under, past)))
