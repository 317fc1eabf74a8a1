-- A hart, with what it holds; its cells by place and by latch; and its cells after writes, with the entry that each write makes (this
-- project's own).
use Rattle.std.specs.Prelude.{ℕ, zero, List, [], length, set, replicate, true, Option, Some, None, option_map}
use Rattle.isa_model.specs.declared.latch.Latch.{Latch}
use Rattle.hart_model.specs.declared.place.Place.{Place}
use Rattle.hart_model.specs.declared.place.Place.TheVariants.{Reg, PortA, PortB, Res, Load, Store, Scr, Mul, Zero, SlotWord, DataWord}
use Rattle.hart_model.specs.declared.tag.Cell.{Cell}
use Rattle.hart_model.specs.Cells.{Cells, Bases, blank, cell_at, place_of}
use Rattle.hart_model.specs.Csrs.{CsrFile, boot_csrs}
use Rattle.hart_model.specs.Context.{ContextState, slot_address, slot_len}

-- A hart: its registers x0 to x31 and its other latches, of which Scr is the CSR mscratch; the word that is always 0; its CSRs, with its
-- number and its mode; its pc; and the context that it holds.
pub record HartState : Type 0 where
  pub regs : List Cell
  pub port_a : Cell
  pub port_b : Cell
  pub res : Cell
  pub load : Cell
  pub store : Cell
  pub mul : Cell
  pub zero_word : Cell
  pub csrs : CsrFile
  pub pc : ℕ
  pub held : Option ContextState

-- a hart of this number at boot: in machine mode at `take`, every latch 0 and public, with nothing
abbrev pub boot_hart : ℕ → ℕ → HartState
boot_hart number take = record {
  regs = replicate 32 blank;
  port_a = blank;
  port_b = blank;
  res = blank;
  load = blank;
  store = blank;
  mul = blank;
  zero_word = blank;
  csrs = boot_csrs number;
  pc = take;
  held = None;
}

-- the hart with its timer pending
abbrev pub tick_of : HartState → HartState
tick_of h = record h { csrs = record h.csrs { is_timer_pending = true } }

-- the slot words and the data words of what is held
abbrev pub held_words : Option ContextState → List Cell
held_words None = []
held_words (Some c) = c.words

abbrev pub held_data : Option ContextState → List Cell
held_data None = []
held_data (Some c) = c.body.data_words

-- all cells of a hart
abbrev pub cells_of : HartState → Cells Cell
cells_of h = record {
  regs = h.regs;
  port_a = h.port_a;
  port_b = h.port_b;
  res = h.res;
  load = h.load;
  store = h.store;
  scr = h.csrs.mscratch;
  mul = h.mul;
  zero = h.zero_word;
  slot = held_words h.held;
  data_words = held_data h.held;
}

-- where the words of what is held stand
abbrev pub bases_of : Option ContextState → Bases
bases_of None = record { slot_at = 0; slot_len = 0; data_at = 0; data_len = 0 }
bases_of (Some c) = record {
  slot_at = slot_address c.slot;
  slot_len = slot_len;
  data_at = c.body.data_at;
  data_len = length c.body.data_words;
}

-- the cell of a place; x0 reads as 0, public
abbrev pub hart_cell : HartState → Place → Cell
hart_cell h (Reg zero) = blank
hart_cell h place = cell_at blank (cells_of h) place

-- the cell of a latch; None for a word of memory that is neither the hart's own nor of what it holds
abbrev pub latch_cell : HartState → Latch → Option Cell
latch_cell h latch = option_map (hart_cell h) (place_of (bases_of h.held) latch)

-- what is held, with a slot word or a data word changed
abbrev pub held_with_word : ℕ → Cell → Option ContextState → Option ContextState
held_with_word i cell None = None
held_with_word i cell (Some c) = Some (record c { words = set c.words i cell })

abbrev pub held_with_data : ℕ → Cell → Option ContextState → Option ContextState
held_with_data i cell None = None
held_with_data i cell (Some c) = Some (record c { body = record c.body { data_words = set c.body.data_words i cell } })

-- the hart with the cell of one place changed
abbrev pub hart_with_cell : HartState → Place → Cell → HartState
hart_with_cell h (Reg r) cell = record h { regs = set h.regs r cell }
hart_with_cell h PortA cell = record h { port_a = cell }
hart_with_cell h PortB cell = record h { port_b = cell }
hart_with_cell h Res cell = record h { res = cell }
hart_with_cell h Load cell = record h { load = cell }
hart_with_cell h Store cell = record h { store = cell }
hart_with_cell h Scr cell = record h { csrs = record h.csrs { mscratch = cell } }
hart_with_cell h Mul cell = record h { mul = cell }
hart_with_cell h Zero cell = record h { zero_word = cell }
hart_with_cell h (SlotWord i) cell = record h { held = held_with_word i cell h.held }
hart_with_cell h (DataWord i) cell = record h { held = held_with_data i cell h.held }
