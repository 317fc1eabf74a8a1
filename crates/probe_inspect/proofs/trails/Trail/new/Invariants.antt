-- The run is at the next mark, and hasn't ended before.
use Rattle.std.proofs.Common.{◌≡◌, ℕ, ◌*◌, length, slice_get, Some}
use Rattle.alone_run.specs.declared.marks.Mark.{Mark}
use Rattle.alone_run.specs.Marks.{IsMarkOf}
use Rattle.probe_inspect.proofs.trails.Trail.new.Given as goal

abbrev pub invariant-loop-index : goal.invariant-loop-index
invariant-loop-index l = record {
  task : l.alone.task ≡ l.task;
  count : l.alone.count ≡ 256 * l.index;
  len : length l.marks.items ≡ l.index;
  each : (i : ℕ) (m : Mark) → slice_get l.marks.items i ≡ Some m → IsMarkOf l.task (256 * i) m;
}
