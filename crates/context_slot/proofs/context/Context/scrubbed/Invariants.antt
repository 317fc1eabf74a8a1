-- The registers that were looked at are 0 and public.
use Rattle.std.proofs.Common.{◌≡◌, ℕ, ◌<◌, ◌≤◌, get_or}
use Rattle.hart_model.specs.Cells.{blank}
use Rattle.context_slot.proofs.context.Context.scrubbed.Given as goal

abbrev pub invariant-loop-i : goal.invariant-loop-i
invariant-loop-i l = (k : ℕ) → 1 ≤ k → k < l.i → get_or l.self.words k blank ≡ blank
