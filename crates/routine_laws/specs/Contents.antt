-- What is known of the words that a routine moves, and what each form of instruction that it may have writes (this project's own).
use Rattle.std.specs.Prelude.{ℕ, zero, ◌/◌, ◌%◌, Bool, true, false, ◌&&◌, ℤ, pos, negsuc, List, [], ◌∷◌, ◌++◌, Option, Some, None, nat_le, ◌==◌, if◌then◌else◌}
use Rattle.hart_model.specs.declared.place.Place.{Place}
use Rattle.hart_model.specs.declared.place.Place.TheVariants as places
use Rattle.hart_model.specs.Cells.{Cells, cell_at, zero_address}
use Rattle.routine_laws.specs.declared.content.Content.{Content}
use Rattle.routine_laws.specs.declared.content.Content.TheVariants.{Zero, SlotAddress, Public, TaskReg, OldSlotWord, Unknown}

-- whether the word may be tagged
abbrev pub is_tagged : Content → Bool
is_tagged Zero = false
is_tagged SlotAddress = false
is_tagged Public = false
is_tagged (TaskReg number) = true
is_tagged (OldSlotWord index) = true
is_tagged Unknown = true

abbrev pub is_zero : Content → Bool
is_zero Zero = true
is_zero content = false

-- what is known of each latch and each word of the slot
abbrev pub Contents : Type 0
Contents = Cells Content

-- x0 is 0
abbrev pub content_at : Contents → Place → Content
content_at c (places.Reg zero) = Zero
content_at c place = cell_at Unknown c place

abbrev pub register : Contents → ℕ → Content
register c number = content_at c (places.Reg number)

-- a content that goes to a place
pub record ContentWrite : Type 0 where
  pub at : Place
  pub content : Content

abbrev pub to : Place → Content → List ContentWrite
to place content = record { at = place; content = content } ∷ []

-- x0 isn't written
abbrev pub to_register : ℕ → Content → List ContentWrite
to_register rd content = if rd == 0 then [] else to (places.Reg rd) content

-- What each form writes, in its order: LUI; ADDI from x0, by its constant; and ADD and MUL of x0 and x0.
abbrev pub constant_of : ℤ → Content
constant_of (pos zero) = Zero
constant_of imm = Public

abbrev pub lui_writes : ℕ → List ContentWrite
lui_writes rd = to places.Res Public ++ to_register rd Public

abbrev pub addi_writes : ℕ → Content → List ContentWrite
addi_writes rd constant = to places.PortA Zero ++ to places.Res constant ++ to_register rd constant

abbrev pub add_writes : List ContentWrite
add_writes = to places.PortA Zero ++ to places.PortB Zero ++ to places.Res Zero

abbrev pub mul_writes : List ContentWrite
mul_writes = to places.PortA Zero ++ to places.PortB Zero ++ to places.Mul Zero ++ to places.Res Zero

-- LW from a place and SW to one, by an address register;
abbrev pub load_writes : Contents → ℕ → ℕ → Place → List ContentWrite
load_writes c rd rs1 place =
    to places.PortA (register c rs1) ++ to places.Res Public ++ to places.Load (content_at c place) ++ to_register rd (content_at c place)

abbrev pub store_writes : Contents → ℕ → ℕ → Place → List ContentWrite
store_writes c rs2 rs1 place =
    to places.PortA (register c rs1) ++ to places.PortB (register c rs2) ++ to places.Res Public ++ to places.Store (register c rs2)
    ++ to place (register c rs2)

-- CSRRW of mscratch and a register, and CSRRS of mscratch and x0.
abbrev pub old_to_res : ℕ → Content → List ContentWrite
old_to_res rd old = if rd == 0 then [] else to places.Res old

abbrev pub swap_writes : Contents → ℕ → ℕ → List ContentWrite
swap_writes c rd rs1 = to places.PortA (register c rs1) ++ old_to_res rd c.scr ++ to places.Scr (register c rs1) ++ to_register rd c.scr

abbrev pub read_writes : Contents → ℕ → List ContentWrite
read_writes c rd = to places.PortA Zero ++ old_to_res rd c.scr ++ to_register rd c.scr

-- whether one of the slot's words that keep registers stands at a distance from the slot's address
abbrev pub is_saved_offset : ℕ → Bool
is_saved_offset at = nat_le 4 at && nat_le at 124 && (at % 4 == 0)

abbrev pub saved_word : ℤ → Option Place
saved_word (pos at) = if is_saved_offset at then Some (places.SlotWord (at / 4)) else None
saved_word (negsuc n) = None

abbrev pub word_from : Content → ℤ → Option Place
word_from SlotAddress imm = saved_word imm
word_from content imm = None

abbrev pub is_zero_offset : ℤ → Bool
is_zero_offset (pos at) = at == zero_address
is_zero_offset (negsuc n) = false

-- What a load or a store may reach: from x0 the word that is always 0, and from the slot's address a word that keeps a register.
abbrev pub reached_by : Contents → ℕ → ℤ → Option Place
reached_by c rs1 imm = if (rs1 == 0) && is_zero_offset imm then Some places.Zero else word_from (register c rs1) imm
