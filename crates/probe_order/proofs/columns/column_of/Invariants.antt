-- The rows so far have the numbers of their changes.
use Rattle.std.proofs.Common.{◌≡◌, ◌+◌, ◌<◌, ◌≤◌, ℕ, length, get_or, slice_get, Some}
use Rattle.probe_inspect.specs.Columns.{change_in}
use Rattle.probe_inspect.specs.declared.rows.Row.{Row}
use Rattle.probe_order.proofs.columns.column_of.Given as goal

abbrev pub invariant-loop-row : goal.invariant-loop-row
invariant-loop-row l = record {
  few : length l.changes.items ≤ length l.rows + l.row-index;
  long : length l.numbers.items ≡ l.row-index;
  each : (i : ℕ) (row : Row) → i < l.row-index → slice_get l.rows i ≡ Some row
      → slice_get l.changes.items (get_or l.numbers.items i 0) ≡ Some (change_in l.at (Some row));
}
