-- The storage of a hart with its slot and its task's data, over any content: cells, values or abstract cells.
use Rattle.std.specs.Prelude.{ℕ, ◌+◌, ◌-◌, ◌*◌, ◌/◌, ◌%◌, ◌&&◌, List, get_or, set, Option, Some, None, nat_le, nat_lt, ◌==◌, if◌then◌else◌}
use Rattle.isa_model.specs.declared.latch.Latch.{Latch}
use Rattle.isa_model.specs.declared.latch.Latch.TheVariants as latches
use Rattle.hart_model.specs.declared.place.Place.{Place}
use Rattle.hart_model.specs.declared.place.Place.TheVariants.{Reg, PortA, PortB, Res, Load, Store, Scr, Mul, Zero, SlotWord, DataWord}
use Rattle.hart_model.specs.declared.tag.Cell.{Cell}
use Rattle.hart_model.specs.declared.tag.Tag.TheVariants.{Public}

pub record Cells (A : Type 0) : Type 0 where
  pub regs : List A
  pub port_a : A
  pub port_b : A
  pub res : A
  pub load : A
  pub store : A
  pub scr : A
  pub mul : A
  pub zero : A
  pub slot : List A
  pub data_words : List A

module _ {A : Type 0} where
  -- the content of a place, and `none` past the end of a list
  abbrev pub cell_at : A → Cells A → Place → A
  cell_at none c (Reg r) = get_or c.regs r none
  cell_at none c PortA = c.port_a
  cell_at none c PortB = c.port_b
  cell_at none c Res = c.res
  cell_at none c Load = c.load
  cell_at none c Store = c.store
  cell_at none c Scr = c.scr
  cell_at none c Mul = c.mul
  cell_at none c Zero = c.zero
  cell_at none c (SlotWord i) = get_or c.slot i none
  cell_at none c (DataWord i) = get_or c.data_words i none

  -- the storage with the content of one place changed
  abbrev pub with_cell : Cells A → Place → A → Cells A
  with_cell c (Reg r) x = record c { regs = set c.regs r x }
  with_cell c PortA x = record c { port_a = x }
  with_cell c PortB x = record c { port_b = x }
  with_cell c Res x = record c { res = x }
  with_cell c Load x = record c { load = x }
  with_cell c Store x = record c { store = x }
  with_cell c Scr x = record c { scr = x }
  with_cell c Mul x = record c { mul = x }
  with_cell c Zero x = record c { zero = x }
  with_cell c (SlotWord i) x = record c { slot = set c.slot i x }
  with_cell c (DataWord i) x = record c { data_words = set c.data_words i x }

-- the address of the word that is always 0, one for each hart
abbrev pub zero_address : ℕ
zero_address = 0x100

-- where the slot and the data stand, and how many words they have (0 where nothing is held)
pub record Bases : Type 0 where
  pub slot_at : ℕ
  pub slot_len : ℕ
  pub data_at : ℕ
  pub data_len : ℕ

-- the latch of a place
abbrev pub latch_of : Bases → Place → Latch
latch_of b (Reg r) = latches.Reg r
latch_of b PortA = latches.PortA
latch_of b PortB = latches.PortB
latch_of b Res = latches.Res
latch_of b Load = latches.Load
latch_of b Store = latches.Store
latch_of b Scr = latches.Scr
latch_of b Mul = latches.Mul
latch_of b Zero = latches.Mem zero_address
latch_of b (SlotWord i) = latches.Mem (b.slot_at + 4 * i)
latch_of b (DataWord i) = latches.Mem (b.data_at + 4 * i)

-- the index of an address among `len` words that stand from a base on; None where it is the address of none of them
abbrev pub index_in : ℕ → ℕ → ℕ → Option ℕ
index_in base len at = if nat_le base at && nat_lt at (base + 4 * len) && ((at - base) % 4 == 0) then Some ((at - base) / 4) else None

abbrev pub data_place_of : Option ℕ → Option Place
data_place_of None = None
data_place_of (Some i) = Some (DataWord i)

abbrev pub slot_place_of : Option ℕ → Option Place → Option Place
slot_place_of None other = other
slot_place_of (Some i) other = Some (SlotWord i)

-- the place of a latch: None for a memory word that is neither the zero word nor of the slot or the data
abbrev pub place_of : Bases → Latch → Option Place
place_of b (latches.Reg r) = Some (Reg r)
place_of b latches.PortA = Some PortA
place_of b latches.PortB = Some PortB
place_of b latches.Res = Some Res
place_of b latches.Load = Some Load
place_of b latches.Store = Some Store
place_of b latches.Scr = Some Scr
place_of b latches.Mul = Some Mul
place_of b (latches.Mem at) =
    if at == zero_address then Some Zero
    else slot_place_of (index_in b.slot_at b.slot_len at) (data_place_of (index_in b.data_at b.data_len at))

-- value 0, public
abbrev pub blank : Cell
blank = record { value = 0; tag = Public }
