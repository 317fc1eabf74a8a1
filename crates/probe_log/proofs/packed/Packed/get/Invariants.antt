-- The reader is at so many entries after the block's start.
use Rattle.std.proofs.Common.{◌+◌, ◌*◌, ◌/◌}
use Rattle.probe_log.specs.Reading.{IsAt}
use Rattle.probe_log.proofs.packed.Packed.get.Given as goal

abbrev pub invariant-loop : goal.invariant-loop
invariant-loop l = IsAt l.reader l.self.entries (64 * (l.i / 64) + l.counter)
