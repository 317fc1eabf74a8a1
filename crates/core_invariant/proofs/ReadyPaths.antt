-- The paths of the kernel's middle from its start to the give of a ready context, each with its end and with what it asks.
use Rattle.std.proofs.Common.{◌≡◌, ℕ, ◌+◌, ◌-◌, Bool, true, false, List, [], ◌∷◌, ◌++◌, length, Option, Some, None, refl}
use Rattle.isa_model.specs.declared.instr.Cmp.TheVariants.{Beq, Blt}
use Rattle.isa_model.specs.Bits.{low_word}
use Rattle.hart_model.specs.declared.tag.Cell.{Cell}
use Rattle.hart_model.specs.Csrs.{CsrFile}
use Rattle.hart_model.specs.Context.{ContextState}
use Rattle.hart_model.specs.Ports.{Outputs, AdvancesTape}
use Rattle.hart_model.specs.MachineStep.{held_after_side}
use Rattle.symbolic_run.specs.AbstractCell.{AbstractCell, PublicAny, PublicNumber, TaskReg, GivenCell}
use Rattle.symbolic_run.specs.Concretization.{Valuation}
use Rattle.symbolic_run.specs.SymbolicPath.{Path, path_from, path_of, PathCondition, IsTaken, HasRoom, GivesWord}
use Rattle.symbolic_run.proofs.ComputedPaths.{every_word, straight}
use Rattle.core_invariant.specs.KernelStates.{middle_instrs, give_ready_index}
use Rattle.core_invariant.proofs.KernelCells.{numbered, bound_cells, saved_cells, at_start}
use Rattle.core_invariant.proofs.PathStates.{are_latches_public}

-- from the start of the middle with a saved task, by these branches
abbrev pub middle_path : Valuation → ℕ → CsrFile → ContextState → List Bool → Option Path
middle_path s idle csrs held answers = path_of every_word s (middle_instrs idle) answers (at_start (saved_cells s PublicAny) csrs held)

-- the path that is found, else another one
abbrev pub path_or : Option Path → Path → Path
path_or None other = other
path_or (Some path) other = path

-- a path that none stands for
abbrev pub no_path : Valuation → CsrFile → ContextState → Path
no_path s csrs held = record { end = at_start (saved_cells s PublicAny) csrs held; conditions = [] }

-- A path of the middle ends at this index, with these words of the slot and this context, with no latch known as tagged and the CSRs as
-- before, and these conditions.
pub record PathEnds (s : Valuation) (idle : ℕ) (csrs : CsrFile) (held : ContextState) (answers : List Bool)
    (index : ℕ) (slot : List AbstractCell) (after : ContextState) (conditions : List PathCondition) : Type 0 where
  pub path : Path
  pub is_path : middle_path s idle csrs held answers ≡ Some path
  pub index_is : path.end.index ≡ index
  pub latches : are_latches_public path.end.cells ≡ true
  pub slot_is : path.end.cells.slot ≡ slot
  pub held_is : path.end.held ≡ after
  pub csrs_is : path.end.csrs ≡ csrs
  pub asked_is : path.conditions ≡ conditions

-- the words of the slot of a saved task with this pc, and with the tape's word in a0
abbrev pub saved_slot : Valuation → ℕ → List AbstractCell
saved_slot s pc = PublicNumber pc ∷ numbered TaskReg 1 31 ++ bound_cells s.task

abbrev pub given_slot : Valuation → ℕ → List AbstractCell
given_slot s pc = PublicNumber pc ∷ numbered TaskReg 1 9 ++ GivenCell ∷ numbered TaskReg 11 21 ++ bound_cells s.task

-- the branches of an interrupt that is the timer's, and what they ask
abbrev pub timer_answers : List Bool
timer_answers = straight 5 ++ true ∷ straight 2 ++ true ∷ straight 2

abbrev pub timer_asked : ℕ → List PathCondition
timer_asked cause = IsTaken Beq cause 8 false ∷ IsTaken Blt cause 0 true ∷ IsTaken Beq cause 0x80000007 true ∷ []

pub timer-path : (s : Valuation) (idle : ℕ) (csrs : CsrFile) (held : ContextState)
    → PathEnds s idle csrs held timer_answers give_ready_index (saved_slot s csrs.mepc) held (timer_asked csrs.mcause)
unfolding path_from
timer-path s idle csrs held = record {
  path = path_or (middle_path s idle csrs held timer_answers) (no_path s csrs held);
  is_path = refl;
  index_is = refl;
  latches = refl;
  slot_is = refl;
  held_is = refl;
  csrs_is = refl;
  asked_is = refl;
}

-- the branches of a service up to where a7 is looked at
abbrev pub service_answers : List Bool
service_answers = straight 4 ++ true ∷ straight 5

-- yield: a7 is 3
abbrev pub yield_answers : List Bool
yield_answers = service_answers ++ straight 6 ++ true ∷ straight 2

abbrev pub yield_asked : ℕ → ℕ → List PathCondition
yield_asked cause a7 = IsTaken Beq cause 8 true ∷ IsTaken Beq a7 0 false ∷ IsTaken Beq a7 1 false ∷ IsTaken Beq a7 2 false ∷ IsTaken Beq a7 3 true ∷ []

pub yield-path : (s : Valuation) (idle : ℕ) (csrs : CsrFile) (held : ContextState)
    → PathEnds s idle csrs held yield_answers give_ready_index (saved_slot s (low_word (csrs.mepc + 4))) held (yield_asked csrs.mcause (s.task_regs 17).value)
unfolding path_from
yield-path s idle csrs held = record {
  path = path_or (middle_path s idle csrs held yield_answers) (no_path s csrs held);
  is_path = refl;
  index_is = refl;
  latches = refl;
  slot_is = refl;
  held_is = refl;
  csrs_is = refl;
  asked_is = refl;
}

-- out, where there is room: a7 is 1
abbrev pub out_answers : List Bool
out_answers = service_answers ++ straight 2 ++ true ∷ straight 9

abbrev pub out_asked : ℕ → ℕ → ContextState → List PathCondition
out_asked cause a7 held =
    IsTaken Beq cause 8 true ∷ IsTaken Beq a7 0 false ∷ IsTaken Beq a7 1 true
    ∷ IsTaken Beq (held.body.out_max - length held.body.output) 0 false ∷ HasRoom held ∷ []

pub out-path : (s : Valuation) (idle : ℕ) (csrs : CsrFile) (held : ContextState)
    → PathEnds s idle csrs held out_answers give_ready_index (saved_slot s (low_word (csrs.mepc + 4))) (held_after_side (Outputs (s.task_regs 10).value) held)
    (out_asked csrs.mcause (s.task_regs 17).value held)
unfolding path_from
out-path s idle csrs held = record {
  path = path_or (middle_path s idle csrs held out_answers) (no_path s csrs held);
  is_path = refl;
  index_is = refl;
  latches = refl;
  slot_is = refl;
  held_is = refl;
  csrs_is = refl;
  asked_is = refl;
}

-- in, where the tape gives a word: a7 is 2
abbrev pub in_answers : List Bool
in_answers = service_answers ++ straight 4 ++ true ∷ straight 10

abbrev pub in_asked : ℕ → ℕ → ContextState → Cell → List PathCondition
in_asked cause a7 held given_cell =
    IsTaken Beq cause 8 true ∷ IsTaken Beq a7 0 false ∷ IsTaken Beq a7 1 false ∷ IsTaken Beq a7 2 true
    ∷ IsTaken Beq (length held.body.tape - held.body.tape_at) 0 false
    ∷ GivesWord held given_cell
    ∷ []

pub in-path : (s : Valuation) (idle : ℕ) (csrs : CsrFile) (held : ContextState)
    → PathEnds s idle csrs held in_answers give_ready_index (given_slot s (low_word (csrs.mepc + 4))) (held_after_side AdvancesTape held)
    (in_asked csrs.mcause (s.task_regs 17).value held s.given_cell)
unfolding path_from
in-path s idle csrs held = record {
  path = path_or (middle_path s idle csrs held in_answers) (no_path s csrs held);
  is_path = refl;
  index_is = refl;
  latches = refl;
  slot_is = refl;
  held_is = refl;
  csrs_is = refl;
  asked_is = refl;
}
