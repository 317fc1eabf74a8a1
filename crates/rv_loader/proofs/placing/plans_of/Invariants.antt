-- The harts so far have their plans.
use Rattle.std.proofs.Common.{◌≡◌, map}
use Rattle.std.specs.List.{range_with_len}
use Rattle.rv_loader.specs.Loading.{plan_of}
use Rattle.rv_loader.proofs.placing.plans_of.Given as goal

abbrev pub invariant-loop-hart : goal.invariant-loop-hart
invariant-loop-hart l = l.plans ≡ map (plan_of l.lines) (range_with_len 0 l.hart)
