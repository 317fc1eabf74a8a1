-- The values so far.
use Rattle.std.proofs.Common.{◌≡◌, ℕ, ◌+◌, ◌<◌, length, get_or}
use Rattle.hart_model.specs.Cells.{blank}
use Rattle.hart_state.proofs.resting.values.Given as goal

abbrev pub invariant-loop-i : goal.invariant-loop-i
invariant-loop-i l = record {
  length : length l.values ≡ 31;
  below : (k : ℕ) → k < l.i → get_or l.values k 0 ≡ (get_or l.cells (k + 1) blank).value;
}
