-- The way of a hart through kernel code, instruction by instruction, over abstract cells: with branches as they are said to be taken,
-- jumps, the CSRs that the kernel uses, and the device ports but those of the queue (this project's own).
use Rattle.std.specs.Prelude.{◌≡◌, ⊤, ℕ, zero, ◌+◌, ◌*◌, ◌/◌, ◌%◌, ◌≤◌, ◌-◌, Bool, true, false, ◌&&◌, ◌||◌, not, ℤ, List, [], ◌∷◌, ◌++◌, length, get_or, slice_get, Option, Some, None, is_none, nat_lt, ◌==◌, if◌then◌else◌}
use Rattle.isa_model.specs.declared.instr.Instr.{Instr}
use Rattle.isa_model.specs.declared.instr.Instr.TheVariants.{Jal, Branch, Load, Store, Csr}
use Rattle.isa_model.specs.declared.instr.Cmp.{Cmp}
use Rattle.isa_model.specs.declared.instr.LoadKind.TheVariants as loads
use Rattle.isa_model.specs.declared.instr.StoreKind.TheVariants as stores
use Rattle.isa_model.specs.declared.instr.CsrOp.TheVariants.{Rw, Rs}
use Rattle.isa_model.specs.declared.latch.Latch.TheVariants as latches
use Rattle.isa_model.specs.declared.ends.End.{End}
use Rattle.isa_model.specs.declared.ends.End.TheVariants.{Exited, Faulted, BadCall, TapeEnd, OutFull, OutOfSteps}
use Rattle.isa_model.specs.Bits.{low_word, two_complement}
use Rattle.isa_model.specs.Arithmetic.{is_taken}
use Rattle.isa_model.specs.InstrTable.{instr_of}
use Rattle.isa_model.specs.Effect.{address, is_mscratch}
use Rattle.hart_model.specs.declared.port.Port.{Port}
use Rattle.hart_model.specs.declared.port.Port.TheVariants.{Out, Tape, TapeLeft, Exit, Fault, Ack, OutLeft}
use Rattle.hart_model.specs.declared.place.Place.TheVariants as places
use Rattle.hart_model.specs.declared.tag.Cell.{Cell}
use Rattle.hart_model.specs.declared.tag.Tag.TheVariants.{Of}
use Rattle.hart_model.specs.declared.tag.Mode.TheVariants.{Machine}
use Rattle.hart_model.specs.Cells.{blank}
use Rattle.hart_model.specs.Csrs.{CsrFile, mepc, mcause, is_pmpaddr, with_public_csr}
use Rattle.hart_model.specs.Traps.{fuel_cause}
use Rattle.hart_model.specs.Context.{ContextState, pc_word, data_word}
use Rattle.hart_model.specs.Ports.{SideEffect, Outputs, AdvancesTape, Ends, port_at}
use Rattle.hart_model.specs.HartState.{HartState, cells_of, held_words}
use Rattle.hart_model.specs.Writes.{CellWrite, after_writes}
use Rattle.hart_model.specs.MachineStep.{kernel_word_at, held_after_side, machine_instr_step, after_machine_writes}
use Rattle.core_model.specs.Soundness.{AreCsrsSound, IsTruthful}
use Rattle.symbolic_run.specs.AbstractCell.{AbstractCell, PublicAny, PublicNumber, GivenCell, AnyTagged, AbstractState, is_tagged}
use Rattle.symbolic_run.specs.AbstractEffect.{AbstractWrite, reg_cell, abstract_effect}
use Rattle.symbolic_run.specs.AbstractRun as abstract
use Rattle.symbolic_run.specs.Concretization.{Valuation, IsDenotedBy, number_of}
use Rattle.symbolic_run.specs.Writes.{WritesDenote}

-- What is known of a hart in machine mode that holds a context: its cells; which of the instructions at hand is the next one, counted
-- from 0; its CSRs but for mscratch and the pending timer; and what it holds but for the words of the slot.
pub record PathState : Type 0 where
  pub cells : AbstractState
  pub index : ℕ
  pub csrs : CsrFile
  pub held : ContextState

-- what has to be so for a path to be the one that is taken: a comparison, room for a word of output, and a word of the tape
pub data PathCondition : Type 0 where
  IsTaken : (op : Cmp) (a b : ℕ) (answer : Bool) → PathCondition
  HasRoom : (held : ContextState) → PathCondition
  GivesWord : (held : ContextState) (cell : Cell) → PathCondition

abbrev pub IsSo : PathCondition → Type 0
IsSo (IsTaken op a b answer) = is_taken op a b ≡ answer
IsSo (HasRoom held) = nat_lt (length held.body.output) held.body.out_max ≡ true
IsSo (GivesWord held cell) = (slice_get held.body.tape held.body.tape_at ≡ Some cell.value) × (cell.tag ≡ Of held.body.task_no held.body.count (latches.Reg 10))

abbrev pub AreSo : List PathCondition → Type 0
AreSo [] = ⊤
AreSo (q ∷ qs) = IsSo q × AreSo qs

-- what one instruction comes to: its writes, what becomes of the rest of the state, and what has to be so
pub record PathStep : Type 0 where
  pub writes : List AbstractWrite
  pub index : ℕ
  pub csrs : CsrFile
  pub held : ContextState
  pub conditions : List PathCondition

-- an instruction that goes on to the next one with these writes
abbrev pub goes_on : PathState → List AbstractWrite → PathStep
goes_on p writes = record { writes = writes; index = p.index + 1; csrs = p.csrs; held = p.held; conditions = [] }

abbrev pub plain_step : PathState → Option (List AbstractWrite) → Option PathStep
plain_step p None = None
plain_step p (Some writes) = Some (goes_on p writes)

-- the index of the instruction at a distance in bytes, where it is one
abbrev pub index_after : ℕ → ℤ → Option ℕ
index_after index off =
    let at = low_word (4 * index + two_complement 32 off) in if (at % 4 == 0) && nat_lt at 4096 then Some (at / 4) else None

-- a jump whose return address goes to no register, and so to Res alone
abbrev pub jump_step : PathState → Option ℕ → Option PathStep
jump_step p None = None
jump_step p (Some index) = Some (record (goes_on p (record { at = places.Res; cell = PublicAny } ∷ [])) { index = index })

-- the operand ports
abbrev pub port_a_write : AbstractState → ℕ → AbstractWrite
port_a_write a rs1 = record { at = places.PortA; cell = reg_cell a rs1 }

abbrev pub port_b_write : AbstractState → ℕ → AbstractWrite
port_b_write a rs2 = record { at = places.PortB; cell = reg_cell a rs2 }

-- a branch, which is taken or not as the path says
abbrev pub branch_index : PathState → ℤ → Bool → Option ℕ
branch_index p off true = index_after p.index off
branch_index p off false = Some (p.index + 1)

abbrev pub branch_step : PathState → Cmp → ℕ → ℕ → Bool → Option ℕ → Option ℕ → Option ℕ → Option PathStep
branch_step p op rs1 rs2 taken (Some a) (Some b) (Some index) = Some (record {
  writes = port_a_write p.cells rs1 ∷ port_b_write p.cells rs2 ∷ [];
  index = index;
  csrs = p.csrs;
  held = p.held;
  conditions = IsTaken op a b taken ∷ [];
})
branch_step p op rs1 rs2 taken a b index = None

-- a read of mepc or mcause into a register
abbrev pub register_writes : ℕ → AbstractCell → List AbstractWrite
register_writes rd cell = if rd == 0 then [] else record { at = places.Reg rd; cell = cell } ∷ []

abbrev pub read_step : PathState → ℕ → ℕ → Option PathStep
read_step p rd value =
    Some (goes_on p (port_a_write p.cells 0 ∷
    (if rd == 0 then [] else record { at = places.Res; cell = PublicNumber value }
    ∷ record { at = places.Reg rd; cell = PublicNumber value } ∷ [])))

abbrev pub csr_read_step : PathState → ℕ → ℕ → Option PathStep
csr_read_step p rd csr = if csr == mepc then read_step p rd p.csrs.mepc else if csr == mcause then read_step p rd p.csrs.mcause else None

-- a write of mepc or of a bound
abbrev pub csrs_step : PathState → List AbstractWrite → Option CsrFile → Option PathStep
csrs_step p writes None = None
csrs_step p writes (Some csrs) = Some (record (goes_on p writes) { csrs = csrs })

abbrev pub csr_write_step : PathState → ℕ → ℕ → Bool → AbstractCell → Option PathStep
csr_write_step p rs1 csr true (PublicNumber value) = csrs_step p (port_a_write p.cells rs1 ∷ []) (with_public_csr p.csrs csr value)
csr_write_step p rs1 csr is_one cell = None

-- the writes of a load of a cell from a port, and of a store to one
abbrev pub load_writes : AbstractState → ℕ → ℕ → ℕ → AbstractCell → List AbstractWrite
load_writes a rd rs1 at cell =
    port_a_write a rs1 ∷ record { at = places.Res; cell = PublicNumber at } ∷ record { at = places.Load; cell = cell } ∷ register_writes rd cell

abbrev pub store_writes : AbstractState → ℕ → ℕ → ℕ → List AbstractWrite
store_writes a rs2 rs1 at =
    port_a_write a rs1
    ∷ port_b_write a rs2
    ∷ record { at = places.Res; cell = PublicNumber at }
    ∷ record { at = places.Store; cell = reg_cell a rs2 }
    ∷ []

-- what a port gives to a load
abbrev pub port_load_step : PathState → ℕ → ℕ → ℕ → Cell → Option Port → Option PathStep
port_load_step p rd rs1 at word (Some Tape) =
    Some (record (goes_on p (load_writes p.cells rd rs1 at GivenCell)) { held = held_after_side AdvancesTape p.held; conditions = GivesWord p.held word ∷ [] })
port_load_step p rd rs1 at word (Some TapeLeft) =
    Some (goes_on p (load_writes p.cells rd rs1 at (PublicNumber (length p.held.body.tape - p.held.body.tape_at))))
port_load_step p rd rs1 at word (Some OutLeft) =
    Some (goes_on p (load_writes p.cells rd rs1 at (PublicNumber (p.held.body.out_max - length p.held.body.output))))
port_load_step p rd rs1 at word port = None

-- the end of a code, with slot words 0 and 17 by what is known of them
abbrev pub end_with : Option ℕ → (ℕ → End) → Option End
end_with None end = None
end_with (Some number) end = Some (end number)

abbrev pub end_of_code : Option ℕ → Option ℕ → ℕ → Option End
end_of_code pc a7 code =
    if nat_lt code 8 then end_with pc (Faulted code)
    else if code == 0x100 then Some TapeEnd
    else if code == 0x101 then Some OutFull
    else if code == 0x102 then end_with a7 BadCall
    else if code == fuel_cause then Some OutOfSteps
    else None

abbrev pub side_step : PathState → List AbstractWrite → List PathCondition → SideEffect → Option PathStep
side_step p writes conditions side = Some (record (goes_on p writes) { held = held_after_side side p.held; conditions = conditions })

abbrev pub end_step : PathState → List AbstractWrite → Bool → Option End → Option PathStep
end_step p writes true (Some end) = side_step p writes [] (Ends end)
end_step p writes may_end end = None

-- what a port makes of a store of this cell, by its number
abbrev pub port_store_step : Valuation → PathState → List AbstractWrite → AbstractCell → Option ℕ → Option Port → Option PathStep
port_store_step s p writes cell (Some value) (Some Out) = side_step p writes (HasRoom p.held ∷ []) (Outputs value)
port_store_step s p writes cell (Some value) (Some Exit) = end_step p writes (is_none p.held.end) (Some (Exited value))
port_store_step s p writes cell (Some value) (Some Fault) =
    end_step p writes (is_none p.held.end && not (is_tagged cell))
    (end_of_code (number_of s (get_or p.cells.slot pc_word AnyTagged)) (number_of s (get_or p.cells.slot 17 AnyTagged)) value)
port_store_step s p writes cell (Some value) (Some Ack) = if is_tagged cell then None else Some (goes_on p writes)
port_store_step s p writes cell value port = None

-- A load or a store from x0 on reaches a port where its address is one, and else a word.
abbrev pub load_step : (ℕ → Bool) → Valuation → PathState → ℕ → ℕ → ℤ → ℕ → Option Port → Option PathStep
load_step may_reach s p rd rs1 imm at None = plain_step p (abstract_effect may_reach p.cells (Load loads.W rd rs1 imm))
load_step may_reach s p rd rs1 imm at (Some port) = port_load_step p rd rs1 at s.given_cell (Some port)

abbrev pub store_step : (ℕ → Bool) → Valuation → PathState → ℕ → ℕ → ℤ → ℕ → Option Port → Option PathStep
store_step may_reach s p rs2 rs1 imm at None = plain_step p (abstract_effect may_reach p.cells (Store stores.W rs2 rs1 imm))
store_step may_reach s p rs2 rs1 imm at (Some port) =
    port_store_step s p (store_writes p.cells rs2 rs1 at) (reg_cell p.cells rs2) (number_of s (reg_cell p.cells rs2)) (Some port)

-- the port that an instruction reaches whose address register is x0
abbrev pub port_from : ℕ → ℤ → Option Port
port_from rs1 imm = if rs1 == 0 then port_at (address 0 imm) else None

abbrev pub csr_step : (ℕ → Bool) → PathState → Instr → ℕ → Bool → Option PathStep
csr_step may_reach p instr csr true = plain_step p (abstract_effect may_reach p.cells instr)
csr_step may_reach p (Csr Rs rd zero csr) number false = csr_read_step p rd csr
csr_step may_reach p (Csr Rw zero rs1 csr) number false = csr_write_step p rs1 csr ((csr == mepc) || is_pmpaddr csr) (reg_cell p.cells rs1)
csr_step may_reach p instr number false = None

-- One instruction of a path. The caller says which words of the slot may be reached, and whether a branch is taken.
abbrev pub path_step : (ℕ → Bool) → Valuation → PathState → Bool → Instr → Option PathStep
path_step may_reach s p taken (Branch op rs1 rs2 off) =
    branch_step p op rs1 rs2 taken (number_of s (reg_cell p.cells rs1)) (number_of s (reg_cell p.cells rs2)) (branch_index p off taken)
path_step may_reach s p taken (Jal zero off) = jump_step p (index_after p.index off)
path_step may_reach s p taken (Load loads.W rd rs1 imm) = load_step may_reach s p rd rs1 imm (address 0 imm) (port_from rs1 imm)
path_step may_reach s p taken (Store stores.W rs2 rs1 imm) = store_step may_reach s p rs2 rs1 imm (address 0 imm) (port_from rs1 imm)
path_step may_reach s p taken (Csr op rd rs1 csr) = csr_step may_reach p (Csr op rd rs1 csr) csr (is_mscratch csr)
path_step may_reach s p taken instr = plain_step p (abstract_effect may_reach p.cells instr)

-- a path so far, and what has to be so
pub record Path : Type 0 where
  pub end : PathState
  pub conditions : List PathCondition

abbrev pub after_cells : PathStep → Option AbstractState → Option Path
after_cells step None = None
after_cells step (Some cells) = Some (record { end = record { cells = cells; index = step.index; csrs = step.csrs; held = step.held }; conditions = step.conditions })

abbrev pub after_path_step : PathState → Option PathStep → Option Path
after_path_step p None = None
after_path_step p (Some step) = after_cells step (abstract.after_writes step.writes p.cells)

abbrev pub after_path_instr : (ℕ → Bool) → Valuation → PathState → Bool → Option Instr → Option Path
after_path_instr may_reach s p taken None = None
after_path_instr may_reach s p taken (Some instr) = after_path_step p (path_step may_reach s p taken instr)

abbrev pub then_conditions : List PathCondition → Option Path → Option Path
then_conditions conditions None = None
then_conditions conditions (Some path) = Some (record path { conditions = conditions ++ path.conditions })

-- A path of so many instructions as there are answers; a branch goes by the answer at its place.
unfoldable pub path_from : (ℕ → Bool) → Valuation → List Instr → List Bool → Option Path → Option Path
path_from may_reach s instrs answers None = None
path_from may_reach s instrs [] (Some path) = Some path
path_from may_reach s instrs (taken ∷ answers) (Some path) =
    then_conditions path.conditions (path_from may_reach s instrs answers (after_path_instr may_reach s path.end taken (slice_get instrs path.end.index)))

abbrev pub path_of : (ℕ → Bool) → Valuation → List Instr → List Bool → PathState → Option Path
path_of may_reach s instrs answers p = path_from may_reach s instrs answers (Some (record { end = p; conditions = [] }))

-- the word of a kernel's code at an address is this instruction
pub record HasInstrAt (code : List ℕ) (at : ℕ) (instr : Instr) : Type 0 where
  pub word : ℕ
  pub is_word : kernel_word_at code at ≡ Some word
  pub is_instr : instr_of word ≡ Some instr

-- Instructions stand in the code, one after the other from an address on.
pub record StandAt (code : List ℕ) (base : ℕ) (instrs : List Instr) : Type 0 where
  pub aligned : base % 4 ≡ 0
  pub high : base ≤ 8192
  pub few : length instrs ≤ 1000
  pub each : (i : ℕ) (instr : Instr) → slice_get instrs i ≡ Some instr → HasInstrAt code (base + 4 * i) instr

-- A hart is as a state of a path says, among instructions that stand from an address on.
pub record IsAsPathSays (s : Valuation) (number base : ℕ) (p : PathState) (h : HartState) : Type 0 where
  pub mode : h.csrs.mode ≡ Machine
  pub csrs : h.csrs ≡ record p.csrs { mscratch = h.csrs.mscratch; is_timer_pending = h.csrs.is_timer_pending }
  pub csrs_sound : AreCsrsSound number h.csrs
  pub pc : h.pc ≡ base + 4 * p.index
  pub held : h.held ≡ Some (record p.held { words = held_words h.held })
  pub slot : p.held.slot ≡ s.slot
  pub cells : IsDenotedBy s p.cells (cells_of h)
  pub registers : length h.regs ≡ 32
  pub zero_word : h.zero_word ≡ blank
  pub data_words : (i : ℕ) → IsTruthful s.tasks (data_word p.held.body i)

-- An instruction of a hart in machine mode does what a step of a path says, among instructions that stand from an address on.
pub record TakesStep (s : Valuation) (number base : ℕ) (p : PathState) (step : PathStep) (h : HartState) (instr : Instr) : Type 0 where
  pub writes : List CellWrite
  pub denote : WritesDenote s step.writes writes
  pub csrs : CsrFile
  pub csrs_are : csrs ≡ record step.csrs { mscratch = h.csrs.mscratch; is_timer_pending = h.csrs.is_timer_pending }
  pub csrs_sound : AreCsrsSound number csrs
  pub side : SideEffect
  pub held : held_after_side side p.held ≡ step.held
  pub step_is : machine_instr_step h instr ≡ after_machine_writes side (base + 4 * step.index) (after_writes writes (record h { csrs = csrs }))
