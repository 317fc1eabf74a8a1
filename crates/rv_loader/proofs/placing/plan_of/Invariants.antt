-- The plan is that of the lines that are left.
use Rattle.std.proofs.Common.{◌≡◌, drop}
use Rattle.rv_loader.specs.Loading.{plan_of}
use Rattle.rv_loader.proofs.placing.plan_of.Given as goal

abbrev pub invariant-loop-line : goal.invariant-loop-line
invariant-loop-line l = plan_of l.lines l.hart ≡ plan_of (drop l.line-index l.lines) l.hart
