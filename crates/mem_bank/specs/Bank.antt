-- A bank of memory, as contracts see it: cells by address (this project's own).
use Rattle.std.specs.Prelude.{◌≡◌, ℕ, ◌+◌, ◌*◌, ◌<◌, List, length, get_or, set, Option, Some, None}
use Rattle.hart_model.specs.declared.tag.Cell.{Cell}
use Rattle.hart_model.specs.Cells.{index_in, blank}

-- the address of the first word, a multiple of 4, and the cells of the words from there on
pub record CellBank : Type 0 where
  pub base : ℕ
  pub cells : List Cell

-- the address is that of the word at this index
pub record IsWordAt (bank : CellBank) (at index : ℕ) : Type 0 where
  pub in_bank : index < length bank.cells
  pub address : at ≡ bank.base + 4 * index

-- the address is that of one of the words
abbrev pub IsWordAddress : CellBank → ℕ → Type 0
IsWordAddress bank at = (index : ℕ) × IsWordAt bank at index

abbrev pub cell_at_index : List Cell → Option ℕ → Option Cell
cell_at_index cells None = None
cell_at_index cells (Some i) = Some (get_or cells i blank)

abbrev pub with_cell_at_index : List Cell → Option ℕ → Cell → List Cell
with_cell_at_index cells None cell = cells
with_cell_at_index cells (Some i) cell = set cells i cell

-- the cell of an address; None where it is the address of none of the words
abbrev pub cell_of : CellBank → ℕ → Option Cell
cell_of bank at = cell_at_index bank.cells (index_in bank.base (length bank.cells) at)

-- the bank with the cell of an address changed, and no other
abbrev pub with_cell_of : CellBank → ℕ → Cell → CellBank
with_cell_of bank at cell = record bank { cells = with_cell_at_index bank.cells (index_in bank.base (length bank.cells) at) cell }
