-- The cells so far.
use Rattle.std.proofs.Common.{◌≡◌, ℕ, ◌+◌, ◌<◌, length, get_or}
use Rattle.hart_model.specs.Cells.{blank}
use Rattle.hart_model.specs.Csrs.{public}
use Rattle.hart_state.proofs.resting.cells.Given as goal

abbrev pub invariant-loop-i : goal.invariant-loop-i
invariant-loop-i l = record {
  length : length l.cells ≡ 32;
  first : get_or l.cells 0 blank ≡ blank;
  below : (k : ℕ) → k < l.i → get_or l.cells (k + 1) blank ≡ public (get_or l.values k 0);
}
