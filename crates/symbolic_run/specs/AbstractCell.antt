-- What a checker of straight-line kernel code knows of a cell, and the storage of a hart with that knowledge in place of cells (this
-- project's own).
use Rattle.std.specs.Prelude.{ℕ, zero, Bool, true, false}
use Rattle.hart_model.specs.declared.place.Place.{Place}
use Rattle.hart_model.specs.declared.place.Place.TheVariants as places
use Rattle.hart_model.specs.Cells.{Cells, cell_at}

-- The number 0, the address of the slot, some number, or this number, each public. Or a cell that may be tagged: the task's own of
-- register `number`, the one that stood in the slot's word `index` at the start, the word that the tape gives, or some cell whose tag says
-- the truth.
pub data AbstractCell : Type 0 where
  Zero : AbstractCell
  SlotAddress : AbstractCell
  PublicAny : AbstractCell
  PublicNumber : (value : ℕ) → AbstractCell
  TaskReg : (number : ℕ) → AbstractCell
  OldSlotWord : (index : ℕ) → AbstractCell
  GivenCell : AbstractCell
  AnyTagged : AbstractCell

abbrev pub is_tagged : AbstractCell → Bool
is_tagged Zero = false
is_tagged SlotAddress = false
is_tagged PublicAny = false
is_tagged (PublicNumber value) = false
is_tagged (TaskReg number) = true
is_tagged (OldSlotWord index) = true
is_tagged GivenCell = true
is_tagged AnyTagged = true

-- whether the number of the cell is known
abbrev pub is_number : AbstractCell → Bool
is_number Zero = true
is_number (PublicNumber value) = true
is_number cell = false

-- whether the cell is known as Zero; a public number isn't tested for 0
abbrev pub is_zero : AbstractCell → Bool
is_zero Zero = true
is_zero cell = false

abbrev pub AbstractState : Type 0
AbstractState = Cells AbstractCell

-- what is known of a place; x0 is 0
abbrev pub abstract_cell_at : AbstractState → Place → AbstractCell
abstract_cell_at a (places.Reg zero) = Zero
abstract_cell_at a place = cell_at AnyTagged a place
