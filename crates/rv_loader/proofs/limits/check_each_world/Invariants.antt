-- The first refusal is the first of those that are left.
use Rattle.std.proofs.Common.{◌≡◌, map, drop}
use Rattle.rv_loader.specs.Refusals.{first_of, world_refusal}
use Rattle.rv_loader.proofs.limits.check_each_world.Given as goal

abbrev pub invariant-loop-world : goal.invariant-loop-world
invariant-loop-world l = first_of (map world_refusal l.worlds) ≡ first_of (map world_refusal (drop l.world-index l.worlds))
