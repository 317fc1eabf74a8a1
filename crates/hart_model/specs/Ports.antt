-- The device ports (this project's own): where they are, what a load or a store does at each, and when it is refused. Only machine mode
-- reaches them, by loads and stores of whole words.
use Rattle.std.specs.Prelude.{ℕ, zero, suc, ◌-◌, Bool, true, false, ◌&&◌, List, [], ◌∷◌, length, slice_get, Option, Some, None, is_none, is_some, nat_lt, ◌==◌, if◌then◌else◌, find}
use Rattle.isa_model.specs.declared.latch.Latch.TheVariants.{Reg}
use Rattle.isa_model.specs.declared.ends.End.{End}
use Rattle.isa_model.specs.declared.ends.End.TheVariants.{Exited, Faulted, BadCall, TapeEnd, OutFull, OutOfSteps}
use Rattle.hart_model.specs.declared.port.Port.{Port}
use Rattle.hart_model.specs.declared.port.Port.TheVariants.{Take, Give, Out, Tape, TapeLeft, Exit, Fault, Ack, OutLeft}
use Rattle.hart_model.specs.declared.calls.QueueCall.{QueueCall}
use Rattle.hart_model.specs.declared.calls.QueueCall.TheVariants as calls
use Rattle.hart_model.specs.declared.tag.Tag.TheVariants.{Of}
use Rattle.hart_model.specs.declared.tag.Cell.{Cell}
use Rattle.hart_model.specs.Taint.{is_public}
use Rattle.hart_model.specs.Csrs.{public}
use Rattle.hart_model.specs.Traps.{fuel_cause}
use Rattle.hart_model.specs.Context.{ContextState, slot_word, pc_word}

abbrev pub port_address : Port → ℕ
port_address Take = 0x700
port_address Give = 0x704
port_address Out = 0x708
port_address Tape = 0x70c
port_address TapeLeft = 0x710
port_address Exit = 0x714
port_address Fault = 0x718
port_address Ack = 0x71c
port_address OutLeft = 0x720

abbrev pub all_ports : List Port
all_ports = Take ∷ Give ∷ Out ∷ Tape ∷ TapeLeft ∷ Exit ∷ Fault ∷ Ack ∷ OutLeft ∷ []

-- the port at an address
abbrev pub port_at : ℕ → Option Port
port_at at = find (λ port. port_address port == at) all_ports

-- what a port does besides the cell that passes it
pub data SideEffect : Type 0 where
  Nothing : SideEffect
  Outputs : (word : ℕ) → SideEffect
  AdvancesTape : SideEffect
  Ends : (end : End) → SideEffect
  ClearsTimer : SideEffect

-- A port lets a cell pass, which a load gives or a store stored, and has a side effect; or the queue has to answer; or it refuses.
pub data PortAnswer : Type 0 where
  Passes : (cell : Cell) (side : SideEffect) → PortAnswer
  AsksQueue : (call : QueueCall) → PortAnswer
  Refuses : PortAnswer

-- the next word of the tape, which is the value of a0 after the instruction that called for it; refused where none is left
abbrev pub tape_answer : ContextState → Option ℕ → PortAnswer
tape_answer c None = Refuses
tape_answer c (Some word) = Passes (record { value = word; tag = Of c.body.task_no c.body.count (Reg 10) }) AdvancesTape

-- A load, by what the hart holds: Take where it holds nothing, the others of the context that it holds.
abbrev pub port_load : Port → Option ContextState → PortAnswer
port_load Take None = AsksQueue calls.Take
port_load Tape (Some c) = tape_answer c (slice_get c.body.tape c.body.tape_at)
port_load TapeLeft (Some c) = Passes (public (length c.body.tape - c.body.tape_at)) Nothing
port_load OutLeft (Some c) = Passes (public (c.body.out_max - length c.body.output)) Nothing
port_load port held = Refuses

-- a give, by the stored value and whether the task has ended: 0 of a task that hasn't, 1 of one that has
abbrev pub give_answer : ℕ → Bool → PortAnswer
give_answer zero false = AsksQueue calls.GiveReady
give_answer (suc zero) true = AsksQueue calls.GiveDone
give_answer value has_ended = Refuses

-- The end of a code: a cause below 8 at the pc of slot word 0, or one of the others. The number of a bad call is slot word 17, a7.
abbrev pub end_of_code : ContextState → ℕ → Option End
end_of_code c code =
    if nat_lt code 8 then Some (Faulted code (slot_word c pc_word).value)
    else if code == 0x100 then Some TapeEnd
    else if code == 0x101 then Some OutFull
    else if code == 0x102 then Some (BadCall (slot_word c 17).value)
    else if code == fuel_cause then Some OutOfSteps
    else None

-- an end by a code; refused where the code is none
abbrev pub fault_answer : Cell → Option End → PortAnswer
fault_answer cell None = Refuses
fault_answer cell (Some end) = Passes cell (Ends end)

-- A store of a cell, by what the hart holds: Ack of a public cell, and the others into the context that it holds. Out needs room in
-- the output, Exit and Fault that no end stands, and Give and Fault a public cell.
abbrev pub port_store : Port → Cell → Option ContextState → PortAnswer
port_store Ack cell held = if is_public cell.tag then Passes cell ClearsTimer else Refuses
port_store Give cell (Some c) = if is_public cell.tag then give_answer cell.value (is_some c.end) else Refuses
port_store Out cell (Some c) = if nat_lt (length c.body.output) c.body.out_max then Passes cell (Outputs cell.value) else Refuses
port_store Exit cell (Some c) = if is_none c.end then Passes cell (Ends (Exited cell.value)) else Refuses
port_store Fault cell (Some c) = if is_public cell.tag && is_none c.end then fault_answer cell (end_of_code c cell.value) else Refuses
port_store port cell held = Refuses
