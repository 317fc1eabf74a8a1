-- What is shown so far.
use Rattle.std.proofs.Common.{◌≡◌, take}
use Rattle.probe_order.specs.Determined.{shown_at}
use Rattle.probe_order.proofs.several.shown_many.Given as goal

abbrev pub invariant-loop-i : goal.invariant-loop-i
invariant-loop-i l = record {
  tasks : l.walk ≡ l.tasks;
  shown : l.shown.items ≡ shown_at l.tasks l.log.entries (take l.i-index l.at);
}
