-- What is known after words of straight-line kernel code (this project's own). The caller says which words of the slot may be
-- reached.
use Rattle.std.specs.Prelude.{ℕ, Bool, true, false, ◌&&◌, not, List, [], ◌∷◌, filter_map, Option, Some, None}
use Rattle.isa_model.specs.declared.instr.Instr.{Instr}
use Rattle.isa_model.specs.InstrTable.{instr_of}
use Rattle.hart_model.specs.declared.place.Place.{Place}
use Rattle.hart_model.specs.declared.place.Place.TheVariants as places
use Rattle.hart_model.specs.Cells.{with_cell}
use Rattle.symbolic_run.specs.AbstractCell.{AbstractCell, AbstractState, is_tagged, is_zero, abstract_cell_at}
use Rattle.symbolic_run.specs.AbstractEffect.{AbstractWrite, abstract_effect}

-- The word that is always 0 takes nothing else, data words aren't written, and elsewhere the old and the new cell may not both be
-- tagged.
abbrev pub is_allowed : Place → AbstractCell → AbstractCell → Bool
is_allowed places.Zero old new = is_zero new
is_allowed (places.DataWord index) old new = false
is_allowed place old new = not (is_tagged old && is_tagged new)

abbrev pub if_allowed : Bool → Option AbstractState → Option AbstractState
if_allowed true a = a
if_allowed false a = None

-- the state after writes, the first one first; None where one isn't allowed
abbrev pub after_writes : List AbstractWrite → AbstractState → Option AbstractState
after_writes [] a = Some a
after_writes (w ∷ ws) a = if_allowed (is_allowed w.at (abstract_cell_at a w.at) w.cell) (after_writes ws (with_cell a w.at w.cell))

abbrev pub after_effect : AbstractState → Option (List AbstractWrite) → Option AbstractState
after_effect a None = None
after_effect a (Some writes) = after_writes writes a

abbrev pub after_instr : (ℕ → Bool) → AbstractState → Option Instr → Option AbstractState
after_instr may_reach a None = None
after_instr may_reach a (Some instr) = after_effect a (abstract_effect may_reach a instr)

-- the state after one word
abbrev pub after_word : (ℕ → Bool) → ℕ → AbstractState → Option AbstractState
after_word may_reach word a = after_instr may_reach a (instr_of word)

abbrev pub run_from : (ℕ → Bool) → List ℕ → Option AbstractState → Option AbstractState
run_from may_reach words None = None
run_from may_reach [] (Some a) = Some a
run_from may_reach (word ∷ words) (Some a) = run_from may_reach words (after_word may_reach word a)

-- The state after words; None where an instruction isn't followed or a write isn't allowed.
abbrev pub run_of : (ℕ → Bool) → List ℕ → AbstractState → Option AbstractState
run_of may_reach words a = run_from may_reach words (Some a)

-- the instructions of words; a word that spells none is passed over
abbrev pub instrs_of : List ℕ → List Instr
instrs_of words = filter_map instr_of words
