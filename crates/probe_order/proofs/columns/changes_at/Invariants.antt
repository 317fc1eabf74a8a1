-- As many changes as rows so far.
use Rattle.std.proofs.Common.{◌≡◌, length}
use Rattle.probe_order.proofs.columns.changes_at.Given as goal

abbrev pub invariant-loop-row : goal.invariant-loop-row
invariant-loop-row l = length l.changes.items ≡ l.row-index
