-- The worlds so far are copied.
use Rattle.std.proofs.Common.{◌≡◌, take}
use Rattle.rv_loader.proofs.placing.copied.Given as goal

abbrev pub invariant-loop-world : goal.invariant-loop-world
invariant-loop-world l = l.copies ≡ take l.world-index l.worlds
