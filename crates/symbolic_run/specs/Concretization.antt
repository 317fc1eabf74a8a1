-- What abstract cells say of the cells of a hart (this project's own).
use Rattle.std.specs.Prelude.{◌≡◌, ℕ, ◌≤◌, ◌<◌, List, [], ◌∷◌, Option, Some, None, slice_get}
use Rattle.isa_model.specs.declared.task.Task.{Task}
use Rattle.isa_model.specs.declared.latch.Latch.TheVariants.{Reg}
use Rattle.hart_model.specs.declared.tag.Cell.{Cell}
use Rattle.hart_model.specs.declared.tag.Tag.TheVariants.{Public}
use Rattle.hart_model.specs.Cells.{Cells, blank}
use Rattle.hart_model.specs.Csrs.{public}
use Rattle.hart_model.specs.Context.{slot_address}
use Rattle.core_model.specs.Soundness.{IsTruthful, IsOwn}
use Rattle.symbolic_run.specs.AbstractCell.{AbstractCell, AbstractState, Zero, SlotAddress, PublicAny, PublicNumber, TaskReg, OldSlotWord, GivenCell, AnyTagged}

-- The tasks of the bundle; the task at hand with its number, how many instructions it has executed and its slot; and, as they were at
-- the start, the cells of its registers and the words of the slot, and the cell that its tape gives next.
pub record Valuation : Type 0 where
  pub tasks : List Task
  pub task_no : ℕ
  pub task : Task
  pub count : ℕ
  pub slot : ℕ
  pub task_regs : ℕ → Cell
  pub old_words : ℕ → Cell
  pub given_cell : Cell

-- what holds at the start: the cells of the registers are the task's own, and the old words of the slot and the tape's say the truth
pub record IsSound (s : Valuation) : Type 0 where
  pub slot : s.slot < 8
  pub is_task : slice_get s.tasks s.task_no ≡ Some s.task
  pub regs : (number : ℕ) → 1 ≤ number → number < 32 → IsOwn s.task_no s.task s.count (Reg number) (s.task_regs number)
  pub words : (index : ℕ) → 1 ≤ index → index < 32 → IsTruthful s.tasks (s.old_words index)
  pub given_cell : IsTruthful s.tasks s.given_cell

-- What an abstract cell says of a cell. The task's register and the slot's old word are the very cells of the start.
abbrev pub Denotes : Valuation → AbstractCell → Cell → Type 0
Denotes s Zero c = c ≡ blank
Denotes s SlotAddress c = c ≡ public (slot_address s.slot)
Denotes s PublicAny c = c.tag ≡ Public
Denotes s (PublicNumber value) c = c ≡ public value
Denotes s (TaskReg number) c = (1 ≤ number) × (number < 32) × (c ≡ s.task_regs number)
Denotes s (OldSlotWord index) c = (1 ≤ index) × (index < 32) × (c ≡ s.old_words index)
Denotes s GivenCell c = c ≡ s.given_cell
Denotes s AnyTagged c = IsTruthful s.tasks c

-- abstract cells in a row say so of as many cells
abbrev pub AllDenote : Valuation → List AbstractCell → List Cell → Type 0
AllDenote s [] [] = Unit {0}
AllDenote s [] (c ∷ cs) = ⊥
AllDenote s (a ∷ abstract) [] = ⊥
AllDenote s (a ∷ abstract) (c ∷ cs) = Denotes s a c × AllDenote s abstract cs

-- of registers all but x0, which is never read
abbrev pub RegsDenote : Valuation → List AbstractCell → List Cell → Type 0
RegsDenote s [] [] = Unit {0}
RegsDenote s [] (c ∷ cs) = ⊥
RegsDenote s (a ∷ abstract) [] = ⊥
RegsDenote s (a ∷ abstract) (c ∷ cs) = AllDenote s abstract cs

-- An abstract state says so of every latch and slot word. Of data words it says nothing.
pub record IsDenotedBy (s : Valuation) (a : AbstractState) (cells : Cells Cell) : Type 0 where
  pub regs : RegsDenote s a.regs cells.regs
  pub port_a : Denotes s a.port_a cells.port_a
  pub port_b : Denotes s a.port_b cells.port_b
  pub res : Denotes s a.res cells.res
  pub load : Denotes s a.load cells.load
  pub store : Denotes s a.store cells.store
  pub scr : Denotes s a.scr cells.scr
  pub mul : Denotes s a.mul cells.mul
  pub zero : Denotes s a.zero cells.zero
  pub slot : AllDenote s a.slot cells.slot
  pub no_data : a.data_words ≡ []

-- the number of a cell of which it is known which one it is
abbrev pub number_of : Valuation → AbstractCell → Option ℕ
number_of s Zero = Some 0
number_of s SlotAddress = Some (slot_address s.slot)
number_of s PublicAny = None
number_of s (PublicNumber value) = Some value
number_of s (TaskReg number) = Some (s.task_regs number).value
number_of s (OldSlotWord index) = Some (s.old_words index).value
number_of s GivenCell = Some s.given_cell.value
number_of s AnyTagged = None
