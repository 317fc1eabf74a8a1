-- A step of a hart in machine mode: one instruction of the kernel's code. No interrupt is taken. Where the instruction would raise an
-- exception, which by the privileged manual would trap to mtvec, and in the other cases below, the hart is wedged: it stays as it is
-- for good (this project's own). `Wedges` lists these cases.
use Rattle.std.specs.Prelude.{ℕ, ◌+◌, ◌-◌, ◌/◌, Bool, false, List, [], ◌∷◌, ◌++◌, Option, Some, None, option_map, is_none, slice_get, nat_le, if◌then◌else◌}
use Rattle.isa_model.specs.declared.instr.Instr.{Instr}
use Rattle.isa_model.specs.declared.instr.Instr.TheVariants.{Jalr, Load, Store, Mret, Csr, CsrImm}
use Rattle.isa_model.specs.declared.instr.LoadKind.{LoadKind}
use Rattle.isa_model.specs.declared.instr.LoadKind.TheVariants as loads
use Rattle.isa_model.specs.declared.instr.StoreKind.{StoreKind}
use Rattle.isa_model.specs.declared.instr.StoreKind.TheVariants as stores
use Rattle.isa_model.specs.declared.latch.Latch.TheVariants.{Mem}
use Rattle.isa_model.specs.Bits.{low_word, word_address}
use Rattle.isa_model.specs.InstrTable.{instr_of}
use Rattle.isa_model.specs.Effect.{Effect, CsrWrite, Operands, Operand, Rs1, Rs2, Word, OldCsr, Next, Goes, Raises, Calls, Returns, effect_of, address}
use Rattle.isa_model.specs.Alone.{rs1_of, rs2_of}
use Rattle.hart_model.specs.declared.calls.QueueCall.{QueueCall}
use Rattle.hart_model.specs.declared.calls.Did.TheVariants.{Ran}
use Rattle.hart_model.specs.declared.place.Place.{Place}
use Rattle.hart_model.specs.declared.place.Place.TheVariants.{Reg}
use Rattle.hart_model.specs.declared.port.Port.{Port}
use Rattle.hart_model.specs.declared.tag.Mode.{Mode}
use Rattle.hart_model.specs.declared.tag.Mode.TheVariants.{User, Machine}
use Rattle.hart_model.specs.declared.tag.Cell.{Cell}
use Rattle.hart_model.specs.declared.tag.Tag.{Tag}
use Rattle.hart_model.specs.declared.tag.Tag.TheVariants.{Public}
use Rattle.hart_model.specs.Cells.{Bases, blank, place_of}
use Rattle.hart_model.specs.Taint.{is_public, machine_tag}
use Rattle.hart_model.specs.Csrs.{CsrFile, csr_cell, with_csr}
use Rattle.hart_model.specs.Traps.{csrs_after_mret}
use Rattle.hart_model.specs.Context.{ContextState}
use Rattle.hart_model.specs.Ports.{SideEffect, Nothing, Outputs, AdvancesTape, Ends, ClearsTimer, PortAnswer, Passes, AsksQueue, Refuses, port_at, port_load, port_store}
use Rattle.hart_model.specs.HartState.{HartState, bases_of, hart_cell}
use Rattle.hart_model.specs.Writes.{CellWrite, HartAndProbes, cell_writes, after_writes}
use Rattle.hart_model.specs.StepResult.{StepResult, Steps, Wants, Wedged}

-- where the kernel's code stands
abbrev pub kernel_address : ℕ
kernel_address = 0x1000

-- the kernel's word that an address lies in
abbrev pub kernel_word_at : List ℕ → ℕ → Option ℕ
kernel_word_at code at = if nat_le kernel_address at then slice_get code ((at - kernel_address) / 4) else None

-- the words that machine mode reaches: the one that is always 0, and those of the slot that is held
abbrev pub machine_bases : Option ContextState → Bases
machine_bases held = record (bases_of held) { data_at = 0; data_len = 0 }

-- what an address is to machine mode: a word of a place, a device port, or nothing that it may reach
pub data Target : Type 0 where
  AtPlace : (place : Place) → Target
  AtPort : (port : Port) → Target
  Nowhere : Target

-- the target where no word of a place stands
abbrev pub port_target : Option Port → Target
port_target None = Nowhere
port_target (Some port) = AtPort port

abbrev pub place_or_port : Option Place → Option Port → Target
place_or_port (Some place) port = AtPlace place
place_or_port None port = port_target port

abbrev pub target_of : Option ContextState → ℕ → Target
target_of held at = place_or_port (place_of (machine_bases held) (Mem (word_address at))) (port_at at)

-- What an instruction finds beside its registers: the memory word, which for a port is the cell that passes it, the old cell of the
-- CSR, and the side effect of a port. Or the queue has to answer, and a load has no word yet. Or the hart is wedged before the
-- instruction's row is asked.
pub data Reach : Type 0 where
  Finds : (word : Option Cell) (old_csr : Cell) (side : SideEffect) → Reach
  NeedsQueue : (call : QueueCall) (word : Option Cell) → Reach
  Refused : Reach

-- what an instruction finds that needs nothing of this
abbrev pub finds_nothing : Reach
finds_nothing = Finds None blank Nothing

-- a load from a port and a store to one, by what the port answers
abbrev pub load_by_port : PortAnswer → Reach
load_by_port (Passes cell side) = Finds (Some cell) blank side
load_by_port (AsksQueue call) = NeedsQueue call None
load_by_port Refuses = Refused

abbrev pub store_by_port : Cell → PortAnswer → Reach
store_by_port stored (Passes cell side) = Finds (Some cell) blank side
store_by_port stored (AsksQueue call) = NeedsQueue call (Some stored)
store_by_port stored Refuses = Refused

-- ports are loaded and stored by whole words alone
abbrev pub load_reach : HartState → LoadKind → Target → Reach
load_reach h kind (AtPlace place) = Finds (Some (hart_cell h place)) blank Nothing
load_reach h loads.W (AtPort port) = load_by_port (port_load port h.held)
load_reach h kind (AtPort port) = Refused
load_reach h kind Nowhere = Refused

abbrev pub store_reach : HartState → StoreKind → Cell → Target → Reach
store_reach h kind stored (AtPlace place) = Finds (Some (hart_cell h place)) blank Nothing
store_reach h stores.W stored (AtPort port) = store_by_port stored (port_store port stored h.held)
store_reach h kind stored (AtPort port) = Refused
store_reach h kind stored Nowhere = Refused

-- a CSR that there isn't is illegal, also where it isn't read
abbrev pub csr_reach : Option Cell → Reach
csr_reach None = Refused
csr_reach (Some old) = Finds None old Nothing

-- whether MRET would enter user mode while nothing is held
abbrev pub enters_nothing : Mode → Option ContextState → Bool
enters_nothing User held = is_none held
enters_nothing Machine held = false

-- the cells of the register operands
abbrev pub rs1_cell : HartState → Instr → Cell
rs1_cell h instr = hart_cell h (Reg (rs1_of instr))

abbrev pub rs2_cell : HartState → Instr → Cell
rs2_cell h instr = hart_cell h (Reg (rs2_of instr))

-- An indirect jump by a tagged register wedges, and MRET that would enter user mode while nothing is held.
abbrev pub reach_of : HartState → Instr → Reach
reach_of h (Load kind rd rs1 imm) = load_reach h kind (target_of h.held (address (hart_cell h (Reg rs1)).value imm))
reach_of h (Store kind rs2 rs1 imm) = store_reach h kind (hart_cell h (Reg rs2)) (target_of h.held (address (hart_cell h (Reg rs1)).value imm))
reach_of h (Csr op rd rs1 csr) = csr_reach (csr_cell h.csrs csr)
reach_of h (CsrImm op rd uimm csr) = csr_reach (csr_cell h.csrs csr)
reach_of h (Jalr rd rs1 imm) = if is_public (hart_cell h (Reg rs1)).tag then finds_nothing else Refused
reach_of h Mret = if enters_nothing h.csrs.previous h.held then Refused else finds_nothing
reach_of h instr = finds_nothing

-- the cells of the operands
pub record OperandCells : Type 0 where
  pub rs1 : Cell
  pub rs2 : Cell
  pub word : Option Cell
  pub old_csr : Cell

abbrev pub operand_cells : HartState → Instr → Option Cell → Cell → OperandCells
operand_cells h instr word old_csr = record { rs1 = rs1_cell h instr; rs2 = rs2_cell h instr; word = word; old_csr = old_csr }

-- their values, by which the row of the effect table goes, and their tags
abbrev pub operand_values : OperandCells → Operands
operand_values o = record { rs1 = o.rs1.value; rs2 = o.rs2.value; word = option_map (λ cell. cell.value) o.word; old_csr = o.old_csr.value }

abbrev pub tag_of_word : Option Cell → Tag
tag_of_word None = Public
tag_of_word (Some cell) = cell.tag

abbrev pub operand_tag : OperandCells → Operand → Tag
operand_tag o Rs1 = o.rs1.tag
operand_tag o Rs2 = o.rs2.tag
operand_tag o Word = tag_of_word o.word
operand_tag o OldCsr = o.old_csr.tag

-- the effect of an instruction, by its row
abbrev pub machine_effect : HartState → Instr → OperandCells → Effect
machine_effect h instr o = effect_of instr h.pc (operand_values o)

-- The writes of an effect, each tagged by what flows into it. A port is no word of memory, so nothing is written there.
abbrev pub machine_writes : HartState → OperandCells → Effect → List CellWrite
machine_writes h o e = cell_writes (machine_bases h.held) (λ w. machine_tag (operand_tag o) w.flow) e.writes

-- the CSR file after an effect: None where there is no such CSR, where it is read only, or where a tagged value would go into it
abbrev pub csrs_after_effect : CsrFile → OperandCells → Option CsrWrite → Option CsrFile
csrs_after_effect c o None = Some c
csrs_after_effect c o (Some w) = with_csr c w.csr (record { value = w.value; tag = machine_tag (operand_tag o) w.flow })

-- what is held, after the side effect of a port
abbrev pub held_after_side : SideEffect → ContextState → ContextState
held_after_side (Outputs word) c = record c { body = record c.body { output = c.body.output ++ word ∷ [] } }
held_after_side AdvancesTape c = record c { body = record c.body { tape_at = c.body.tape_at + 1 } }
held_after_side (Ends end) c = record c { end = Some end }
held_after_side side c = c

-- the hart after the side effect of a port
abbrev pub after_side : SideEffect → HartState → HartState
after_side ClearsTimer h = record h { csrs = record h.csrs { is_timer_pending = false } }
after_side side h = record h { held = option_map (held_after_side side) h.held }

-- an instruction that goes on: the CSR file, the writes, the side effect and the pc
abbrev pub after_machine_writes : SideEffect → ℕ → HartAndProbes → StepResult
after_machine_writes side pc a = Steps (record (after_side side a.hart) { pc = pc }) a.probes Ran

-- an effect that goes on, where its CSR may be written
abbrev pub by_csrs : HartState → OperandCells → SideEffect → Effect → ℕ → Option CsrFile → StepResult
by_csrs h o side e pc None = Wedged
by_csrs h o side e pc (Some csrs) = after_machine_writes side pc (after_writes (machine_writes h o e) (record h { csrs = csrs }))

-- the return from a trap (privileged manual, "Trap-Return Instructions")
abbrev pub after_mret : HartState → StepResult
after_mret h = Steps (record h { csrs = csrs_after_mret h.csrs; pc = h.csrs.mepc }) [] Ran

-- an effect, by what follows it: an exception or a call of the environment wedges
abbrev pub by_next : HartState → OperandCells → SideEffect → Effect → Next → StepResult
by_next h o side e (Goes pc) = by_csrs h o side e pc (csrs_after_effect h.csrs o e.csr)
by_next h o side e (Raises cause) = Wedged
by_next h o side e Calls = Wedged
by_next h o side e Returns = after_mret h

abbrev pub after_machine_effect : HartState → OperandCells → SideEffect → Effect → StepResult
after_machine_effect h o side e = by_next h o side e e.next

-- the register that a load goes to, and 0 for other forms
abbrev pub load_rd : Instr → ℕ
load_rd (Load kind rd rs1 imm) = rd
load_rd instr = 0

-- an instruction that the queue has to answer: what it has written until then, and where it goes on
abbrev pub wants : HartState → Instr → QueueCall → OperandCells → StepResult
wants h instr call o = Wants call (machine_writes h o (machine_effect h instr o)) (load_rd instr) (low_word (h.pc + 4))

-- an instruction, by what it finds
abbrev pub by_reach : HartState → Instr → Reach → StepResult
by_reach h instr (Finds word old_csr side) =
    let o = operand_cells h instr word old_csr in after_machine_effect h o side (machine_effect h instr o)
by_reach h instr (NeedsQueue call word) = wants h instr call (operand_cells h instr word blank)
by_reach h instr Refused = Wedged

abbrev pub machine_instr_step : HartState → Instr → StepResult
machine_instr_step h instr = by_reach h instr (reach_of h instr)

-- the word at the pc, if there is one, and its instruction, if it is one
abbrev pub by_instr : HartState → Option Instr → StepResult
by_instr h None = Wedged
by_instr h (Some instr) = machine_instr_step h instr

abbrev pub by_word : HartState → Option ℕ → StepResult
by_word h None = Wedged
by_word h (Some word) = by_instr h (instr_of word)

-- A step in machine mode: the instruction of the kernel's word at the pc.
unfoldable pub machine_step : List ℕ → HartState → StepResult
machine_step code h = by_word h (kernel_word_at code h.pc)
