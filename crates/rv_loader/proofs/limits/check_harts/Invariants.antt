-- The first refusal is the first of those that are left.
use Rattle.std.proofs.Common.{◌≡◌, map, drop}
use Rattle.rv_loader.specs.Refusals.{first_of, hart_refusal}
use Rattle.rv_loader.proofs.limits.check_harts.Given as goal

abbrev pub invariant-loop-line : goal.invariant-loop-line
invariant-loop-line l = first_of (map (hart_refusal l.harts) l.lines) ≡ first_of (map (hart_refusal l.harts) (drop l.line-index l.lines))
