-- The values of the latches so far.
use Rattle.std.proofs.Common.{◌≡◌, ◌++◌, map, take}
use Rattle.isa_model.specs.AloneValue.{alone_value}
use Rattle.probe_inspect.proofs.rows.add_values.Given as goal

abbrev pub invariant-loop-latch : goal.invariant-loop-latch
invariant-loop-latch l = l.values.items ≡ l.initial.values.items ++ map (alone_value l.alone.task l.alone.count) (take l.latch-index l.latches)
