-- What is written so far, and the bytes of what is left, are the whole.
use Rattle.std.proofs.Common.{◌≡◌, ◌++◌, drop}
use Rattle.std.specs.List.{flat_map}
use Rattle.saved_form.specs.Spelling.{of_cell, bytes_of}
use Rattle.saved_form.proofs.writing.add_cells.Given as goal

abbrev pub invariant-loop-cell : goal.invariant-loop-cell
invariant-loop-cell l = l.out.items ++ bytes_of (flat_map of_cell (drop l.cell-index l.cells)) ≡ l.initial.out.items ++ bytes_of (flat_map of_cell l.cells)
