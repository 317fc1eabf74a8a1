-- The places of the latches so far.
use Rattle.std.proofs.Common.{◌≡◌, ◌++◌, map, take}
use Rattle.probe_order.specs.Places.{place_of}
use Rattle.probe_order.proofs.places.add_places.Given as goal

abbrev pub invariant-loop-latch : goal.invariant-loop-latch
invariant-loop-latch l = l.places.items ≡ l.initial.places.items ++ map (place_of l.step) (take l.latch-index l.latches)
