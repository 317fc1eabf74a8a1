-- The ways through the kernel's code that end a task: used fuel, an exception, and the services that end it. Each is followed from the
-- saved task to the give, where the registers in its slot are 0 and x6 is 1.
use Rattle.std.proofs.Common.{◌≡◌, refl, ℕ, ◌+◌, ◌-◌, Bool, true, false, List, [], ◌∷◌, ◌++◌, length, replicate, Some, None, nat_lt}
use Rattle.isa_model.specs.declared.ends.End.{End}
use Rattle.isa_model.specs.declared.ends.End.TheVariants.{Exited, Faulted, BadCall, TapeEnd, OutFull, OutOfSteps}
use Rattle.isa_model.specs.declared.instr.Cmp.TheVariants.{Beq, Blt}
use Rattle.isa_model.specs.Bits.{low_word}
use Rattle.hart_model.specs.Csrs.{CsrFile}
use Rattle.hart_model.specs.Context.{ContextState}
use Rattle.hart_model.specs.Traps.{fuel_cause, timer_cause}
use Rattle.symbolic_run.specs.AbstractCell.{AbstractCell, Zero, SlotAddress, PublicAny, PublicNumber, AbstractState}
use Rattle.symbolic_run.specs.Concretization.{Valuation}
use Rattle.symbolic_run.specs.SymbolicPath.{PathState, Path, path_from, path_of, PathCondition, IsTaken}
use Rattle.symbolic_run.proofs.ComputedPaths.{every_word, straight}
use Rattle.core_invariant.specs.KernelStates.{middle_instrs, give_done_index}
use Rattle.core_invariant.proofs.KernelCells.{saved_cells, bound_cells, at_start}
use Rattle.core_invariant.proofs.ReadyPaths.{service_answers}

-- the last 32 instructions of a way scrub the slot and set x6
abbrev pub scrubbing : List Bool
scrubbing = straight 32

-- what is known of a scrubbed task: x6 is 1; x7, the latch of loads and the word of the pc are as given
abbrev pub done_cells : Valuation → AbstractCell → AbstractCell → AbstractCell → AbstractState
done_cells s x7 load pc = record {
  regs = replicate 5 PublicAny ++ SlotAddress ∷ PublicNumber 1 ∷ x7 ∷ replicate 24 PublicAny;
  port_a = Zero;
  port_b = Zero;
  res = PublicNumber 1;
  load = load;
  store = Zero;
  scr = SlotAddress;
  mul = PublicAny;
  zero = Zero;
  slot = pc ∷ replicate 31 Zero ++ bound_cells s.task;
  data_words = [];
}

-- the state of a hart that has just trapped, by its cause and its pc, and of one that is about to give an ended task
abbrev pub trap_csrs : CsrFile → ℕ → ℕ → CsrFile
trap_csrs csrs cause epc = record csrs { mcause = cause; mepc = epc }

abbrev pub trap_state : Valuation → CsrFile → ContextState → PathState
trap_state s csrs held = at_start (saved_cells s PublicAny) csrs (record held { end = None })

abbrev pub done_state : AbstractState → CsrFile → ContextState → End → PathState
done_state cells csrs held end = record { cells = cells; index = give_done_index; csrs = csrs; held = record held { end = Some end } }

abbrev pub done_path : PathState → List PathCondition → Path
done_path end conditions = record { end = end; conditions = conditions }

-- used fuel: neither a service nor an exception nor the timer
abbrev pub fuel_answers : List Bool
fuel_answers = straight 5 ++ true ∷ straight 5 ++ scrubbing

-- an exception
abbrev pub fault_answers : List Bool
fault_answers = straight 8 ++ scrubbing

-- the services: exit, out without room, in without a word, and one that there isn't
abbrev pub exit_answers : List Bool
exit_answers = service_answers ++ true ∷ straight 7 ++ scrubbing

abbrev pub out_full_answers : List Bool
out_full_answers = service_answers ++ straight 2 ++ true ∷ straight 2 ++ true ∷ straight 3 ++ scrubbing

abbrev pub tape_end_answers : List Bool
tape_end_answers = service_answers ++ straight 4 ++ true ∷ straight 2 ++ true ∷ straight 3 ++ scrubbing

abbrev pub bad_call_answers : List Bool
bad_call_answers = service_answers ++ straight 11 ++ scrubbing

module _ (s : Valuation) (idle epc : ℕ) (csrs : CsrFile) (held : ContextState) where
  -- the end of a way after a trap by a cause, with x7, the latch of loads, the word of the pc, and the task's end
  abbrev pub end-of : ℕ → AbstractCell → AbstractCell → ℕ → End → PathState
  end-of cause x7 load pc end = done_state (done_cells s x7 load (PublicNumber pc)) (trap_csrs csrs cause epc) held end

  -- and after a call, with the pc of the next instruction
  abbrev pub call-end : ℕ → AbstractCell → End → PathState
  call-end x7 load end = end-of 8 (PublicNumber x7) load (low_word (epc + 4)) end

  -- a call is of this service or not
  abbrev pub is-of : ℕ → Bool → PathCondition
  is-of service answer = IsTaken Beq (s.task_regs 17).value service answer

  -- how many words there is room for, and how many the tape has left
  abbrev pub room-of : ℕ
  room-of = held.body.out_max - length held.body.output

  abbrev pub left-of : ℕ
  left-of = length held.body.tape - held.body.tape_at

  pub fuel-path : path_of every_word s (middle_instrs idle) fuel_answers (trap_state s (trap_csrs csrs fuel_cause epc) held)
      ≡ Some (done_path (end-of fuel_cause (PublicNumber fuel_cause) PublicAny epc OutOfSteps)
      (IsTaken Beq fuel_cause 8 false ∷ IsTaken Blt fuel_cause 0 true ∷ IsTaken Beq fuel_cause timer_cause false ∷ []))
  unfolding path_from
  fuel-path = refl

  pub fault-path : (cause : ℕ) → nat_lt cause 8 ≡ true → path_of every_word s (middle_instrs idle) fault_answers (trap_state s (trap_csrs csrs cause epc) held)
      ≡ Some (done_path (end-of cause (PublicNumber cause) PublicAny epc (Faulted cause epc)) (IsTaken Beq cause 8 false ∷ IsTaken Blt cause 0 false ∷ []))
  unfolding path_from
  fault-path cause low = rw low refl

  pub exit-path : path_of every_word s (middle_instrs idle) exit_answers (trap_state s (trap_csrs csrs 8 epc) held)
      ≡ Some (done_path (call-end 8 Zero (Exited (s.task_regs 10).value)) (IsTaken Beq 8 8 true ∷ is-of 0 true ∷ []))
  unfolding path_from
  exit-path = refl

  pub out-full-path : path_of every_word s (middle_instrs idle) out_full_answers (trap_state s (trap_csrs csrs 8 epc) held)
      ≡ Some (done_path (call-end 0x101 (PublicNumber room-of) OutFull)
      (IsTaken Beq 8 8 true ∷ is-of 0 false ∷ is-of 1 true ∷ IsTaken Beq room-of 0 true ∷ []))
  unfolding path_from
  out-full-path = refl

  pub tape-end-path : path_of every_word s (middle_instrs idle) tape_end_answers (trap_state s (trap_csrs csrs 8 epc) held)
      ≡ Some (done_path (call-end 0x100 (PublicNumber left-of) TapeEnd)
      (IsTaken Beq 8 8 true ∷ is-of 0 false ∷ is-of 1 false ∷ is-of 2 true ∷ IsTaken Beq left-of 0 true ∷ []))
  unfolding path_from
  tape-end-path = refl

  pub bad-call-path : path_of every_word s (middle_instrs idle) bad_call_answers (trap_state s (trap_csrs csrs 8 epc) held)
      ≡ Some (done_path (call-end 0x102 Zero (BadCall (s.task_regs 17).value))
      (IsTaken Beq 8 8 true ∷ is-of 0 false ∷ is-of 1 false ∷ is-of 2 false ∷ is-of 3 false ∷ []))
  unfolding path_from
  bad-call-path = refl
