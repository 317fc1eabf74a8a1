-- What an instruction does to abstract cells: its row of the effect table, read by what flows into each written value (this project's
-- own). Only instructions that go on to the next word have one: no jump, no CSR but mscratch, no port, loads and stores of words.
use Rattle.std.specs.Prelude.{ℕ, Bool, true, false, ◌&&◌, List, [], ◌∷◌, Option, Some, None, option_map, ◌==◌, if◌then◌else◌}
use Rattle.std.specs.List.{list_any, list_all}
use Rattle.isa_model.specs.declared.instr.Instr.{Instr}
use Rattle.isa_model.specs.declared.instr.Instr.TheVariants.{Lui, Load, Store, AluImm, AluReg, Csr}
use Rattle.isa_model.specs.declared.instr.LoadKind.TheVariants as loads
use Rattle.isa_model.specs.declared.instr.StoreKind.TheVariants as stores
use Rattle.isa_model.specs.declared.latch.Latch.TheVariants.{Mem}
use Rattle.isa_model.specs.Bits.{word_address}
use Rattle.isa_model.specs.Effect.{Effect, Write, Flow, Constant, Moved, Mixed, Operands, Operand, Rs1, Rs2, Word, OldCsr, Next, Goes, effect_of, address, is_mscratch}
use Rattle.isa_model.specs.Alone.{rs1_of, rs2_of}
use Rattle.hart_model.specs.declared.place.Place.{Place}
use Rattle.hart_model.specs.declared.place.Place.TheVariants as places
use Rattle.hart_model.specs.Cells.{Bases, place_of}
use Rattle.hart_model.specs.Context.{slot_address, slot_len}
use Rattle.symbolic_run.specs.AbstractCell.{AbstractCell, Zero, SlotAddress, PublicAny, PublicNumber, AbstractState, is_tagged, is_number, is_zero, abstract_cell_at}

-- The number that stands for a cell among a row's operands: the known one; for the slot's address that of slot 0, which stands for all
-- slots; and 0 for one that isn't known.
abbrev pub stand_in : AbstractCell → ℕ
stand_in SlotAddress = slot_address 0
stand_in (PublicNumber value) = value
stand_in cell = 0

abbrev pub stand_in_bases : Bases
stand_in_bases = record { slot_at = slot_address 0; slot_len = slot_len; data_at = 0; data_len = 0 }

abbrev pub slot_word_if : Bool → ℕ → Option Place
slot_word_if true index = Some (places.SlotWord index)
slot_word_if false index = None

-- From the slot's address an access reaches those words of the slot that the caller allows, and from a known number the word that is
-- always 0.
abbrev pub reached_from : (ℕ → Bool) → AbstractCell → Option Place → Option Place
reached_from may_reach SlotAddress (Some (places.SlotWord index)) = slot_word_if (may_reach index) index
reached_from may_reach Zero (Some places.Zero) = Some places.Zero
reached_from may_reach (PublicNumber value) (Some places.Zero) = Some places.Zero
reached_from may_reach base place = None

-- the place of a load or store by what is known of its address register, and by its address
abbrev pub place_from : (ℕ → Bool) → AbstractCell → ℕ → Option Place
place_from may_reach base at = reached_from may_reach base (place_of stand_in_bases (Mem (word_address at)))

-- the word of memory that an instruction finds, where it has one that it may reach
pub data AbstractWord : Type 0 where
  NoWord : AbstractWord
  WordAt : (place : Place) → AbstractWord
  Unreached : AbstractWord

abbrev pub word_at_place : Option Place → AbstractWord
word_at_place None = Unreached
word_at_place (Some place) = WordAt place

abbrev pub unless_reached : Bool → AbstractWord
unless_reached true = NoWord
unless_reached false = Unreached

abbrev pub reg_cell : AbstractState → ℕ → AbstractCell
reg_cell a r = abstract_cell_at a (places.Reg r)

abbrev pub word_of_instr : (ℕ → Bool) → AbstractState → Instr → AbstractWord
word_of_instr may_reach a (Load loads.W rd rs1 imm) = word_at_place (place_from may_reach (reg_cell a rs1) (address (stand_in (reg_cell a rs1)) imm))
word_of_instr may_reach a (Store stores.W rs2 rs1 imm) = word_at_place (place_from may_reach (reg_cell a rs1) (address (stand_in (reg_cell a rs1)) imm))
word_of_instr may_reach a (Csr op rd rs1 csr) = unless_reached (is_mscratch csr)
word_of_instr may_reach a (Lui rd imm20) = NoWord
word_of_instr may_reach a (AluImm op rd rs1 imm) = NoWord
word_of_instr may_reach a (AluReg op rd rs1 rs2) = NoWord
word_of_instr may_reach a instr = Unreached

-- what is known of the operands
pub record AbstractOperands : Type 0 where
  pub rs1 : AbstractCell
  pub rs2 : AbstractCell
  pub word : Option AbstractCell
  pub old_csr : AbstractCell

abbrev pub word_or_zero : Option AbstractCell → AbstractCell
word_or_zero None = Zero
word_or_zero (Some cell) = cell

abbrev pub operand_cell : AbstractOperands → Operand → AbstractCell
operand_cell o Rs1 = o.rs1
operand_cell o Rs2 = o.rs2
operand_cell o Word = word_or_zero o.word
operand_cell o OldCsr = o.old_csr

abbrev pub stand_ins : AbstractOperands → Operands
stand_ins o = record { rs1 = stand_in o.rs1; rs2 = stand_in o.rs2; word = option_map stand_in o.word; old_csr = stand_in o.old_csr }

abbrev pub operands_of : AbstractState → Instr → Option AbstractCell → AbstractOperands
operands_of a instr word = record {
  rs1 = reg_cell a (rs1_of instr);
  rs2 = reg_cell a (rs2_of instr);
  word = word;
  old_csr = abstract_cell_at a places.Scr;
}

-- What is computed of several cells is public where all are, and known where all are; of Zero alone it may be Zero. Of a tagged cell
-- nothing may be computed.
abbrev pub mixed_cell : List AbstractCell → ℕ → Option AbstractCell
mixed_cell cells value =
    if list_any is_tagged cells then None
    else if list_all is_zero cells && (value == 0) then Some Zero
    else if list_all is_number cells then Some (PublicNumber value)
    else Some PublicAny

abbrev pub operand_list : AbstractOperands → List Operand → List AbstractCell
operand_list o [] = []
operand_list o (from ∷ more) = operand_cell o from ∷ operand_list o more

-- what is known of a written value, by what flows into it
abbrev pub cell_of_flow : AbstractOperands → Flow → ℕ → Option AbstractCell
cell_of_flow o Constant value = Some (PublicNumber value)
cell_of_flow o (Moved from) value = Some (operand_cell o from)
cell_of_flow o (Mixed from) value = mixed_cell (operand_list o from) value

-- an abstract cell that goes to a place
pub record AbstractWrite : Type 0 where
  pub at : Place
  pub cell : AbstractCell

abbrev pub with_write : Option Place → Option AbstractCell → Option (List AbstractWrite) → Option (List AbstractWrite)
with_write (Some place) (Some cell) (Some rest) = Some (record { at = place; cell = cell } ∷ rest)
with_write place cell rest = None

abbrev pub abstract_writes : AbstractOperands → List Write → Option (List AbstractWrite)
abstract_writes o [] = Some []
abstract_writes o (w ∷ ws) = with_write (place_of stand_in_bases w.to) (cell_of_flow o w.flow w.value) (abstract_writes o ws)

abbrev pub by_next : AbstractOperands → List Write → Next → Option (List AbstractWrite)
by_next o writes (Goes pc) = abstract_writes o writes
by_next o writes next = None

abbrev pub by_effect : AbstractOperands → Effect → Option (List AbstractWrite)
by_effect o e = by_next o e.writes e.next

abbrev pub by_operands : Instr → AbstractOperands → Option (List AbstractWrite)
by_operands instr o = by_effect o (effect_of instr 0 (stand_ins o))

abbrev pub by_word : AbstractState → Instr → AbstractWord → Option (List AbstractWrite)
by_word a instr NoWord = by_operands instr (operands_of a instr None)
by_word a instr (WordAt place) = by_operands instr (operands_of a instr (Some (abstract_cell_at a place)))
by_word a instr Unreached = None

-- The writes of an instruction in their order, each with what is known of its value; None where it isn't followed.
-- The caller says which words of the slot may be reached.
abbrev pub abstract_effect : (ℕ → Bool) → AbstractState → Instr → Option (List AbstractWrite)
abstract_effect may_reach a instr = by_word a instr (word_of_instr may_reach a instr)
