-- The changes at a place by small numbers (this project's own).
use Rattle.std.specs.Prelude.{◌≡◌, ℕ, ◌+◌, ◌≤◌, List, length, get_or, slice_get, Some}
use Rattle.probe_inspect.specs.Columns.{change_in}
use Rattle.probe_inspect.specs.declared.rows.Row.{Row}
use Rattle.probe_order.specs.declared.columns.Column.{Column}

-- Where a change stands in a list, to which at most one was added.
pub record IsNumberIn (old changes : List (ℕ × ℕ)) (change : ℕ × ℕ) (n : ℕ) : Type 0 where
  pub there : slice_get changes n ≡ Some change
  pub kept : (i : ℕ) (x : ℕ × ℕ) → slice_get old i ≡ Some x → slice_get changes i ≡ Some x
  pub few : length changes ≤ length old + 1

-- Each row has the number of its change at a place.
pub record IsColumnOf (rows : List Row) (at : ℕ) (column : Column) : Type 0 where
  pub long : length column.numbers ≡ length rows
  pub each : (i : ℕ) (row : Row) → slice_get rows i ≡ Some row → slice_get column.changes (get_or column.numbers i 0) ≡ Some (change_in at (Some row))

pub record AreColumnsOf (rows : List Row) (places : ℕ) (columns : List Column) : Type 0 where
  pub long : length columns ≡ places
  pub each : (at : ℕ) (column : Column) → slice_get columns at ≡ Some column → IsColumnOf rows at column
