-- The places of the steps so far.
use Rattle.std.proofs.Common.{◌≡◌}
use Rattle.probe_inspect.specs.Course.{latches_at}
use Rattle.probe_order.specs.Places.{places_in}
use Rattle.probe_order.proofs.places.places_of.Given as goal

abbrev pub invariant-loop-step : goal.invariant-loop-step
invariant-loop-step l = l.places.items ≡ places_in (latches_at l.course) l.step
