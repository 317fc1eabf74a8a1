-- The first refusal is the first of those that are left.
use Rattle.std.proofs.Common.{◌≡◌, map, drop}
use Rattle.rv_loader.specs.Refusals.{first_of, quanta_refusal}
use Rattle.rv_loader.proofs.limits.check_quanta.Given as goal

abbrev pub invariant-loop-line : goal.invariant-loop-line
invariant-loop-line l = first_of (map quanta_refusal l.lines) ≡ first_of (map quanta_refusal (drop l.line-index l.lines))
