use Rattle.std.proofs.Common.{sym, ◌∙◌}
use Rattle.count_differences.specs.Differences.{IsLeastDifference}
use Rattle.count_differences.proofs.Least.{often-permuted, least-permuted, if-none, if-some}
use Rattle.count_differences.proofs.differences.least_of.Goals as goal

pub returns-clause-none : goal.returns-clause-none
returns-clause-none g c =
    let cmp = g.T.Ord.cmp in
    let total = g.met.T.Ord.total in
    let p = c.sort_unstable.ensures.permutation in
    let q = c.sort_unstable-2.ensures.permutation in
    if-none c.least_difference.result
    (λ same z.
    sym (often-permuted cmp total c.args.xs.now c.sort_unstable.new.self p z) ∙ same z ∙ often-permuted cmp total c.args.ys.now c.sort_unstable-2.new.self q z)
    c.least_difference.ensures.none

pub returns-clause-some : goal.returns-clause-some
returns-clause-some g c =
    let cmp = g.T.Ord.cmp in
    let total = g.met.T.Ord.total in
    let p = c.sort_unstable.ensures.permutation in
    let q = c.sort_unstable-2.ensures.permutation in
    if-some (λ item. IsLeastDifference cmp c.sort_unstable.new.self c.sort_unstable-2.new.self item) (λ item. IsLeastDifference cmp c.args.xs.now c.args.ys.now item)
    c.least_difference.result
    (λ item is. least-permuted cmp total c.args.xs.now c.args.ys.now c.sort_unstable.new.self c.sort_unstable-2.new.self item p q is)
    c.least_difference.ensures.some
