-- Steps in machine mode, computed: the words are those of a GNU assembler.
use Rattle.std.proofs.Common.{◌≡◌, refl, ℕ, true, false, [], ◌∷◌, Option, Some, None}
use Rattle.isa_model.specs.declared.ends.End.TheVariants.{Exited, Faulted, TapeEnd}
use Rattle.isa_model.specs.declared.latch.Latch.TheVariants as latches
use Rattle.hart_model.specs.declared.calls.QueueCall.TheVariants as calls
use Rattle.hart_model.specs.declared.place.Place.TheVariants.{Reg, PortA, PortB, Res, Load, Store, Scr, SlotWord}
use Rattle.hart_model.specs.declared.tag.Tag.TheVariants.{Of, Many}
use Rattle.hart_model.specs.declared.tag.Mode.{Mode}
use Rattle.hart_model.specs.declared.tag.Mode.TheVariants.{User, Machine}
use Rattle.hart_model.specs.declared.tag.Cell.{Cell}
use Rattle.hart_model.specs.declared.calls.Did.TheVariants as dids
use Rattle.hart_model.specs.Cells.{blank}
use Rattle.hart_model.specs.Csrs.{public, csr_cell, with_csr}
use Rattle.hart_model.specs.Context.{ContextState}
use Rattle.hart_model.specs.HartState.{HartState, hart_cell, hart_with_cell, tick_of}
use Rattle.hart_model.specs.StepResult.{StepResult, Steps, Wants, Wedged, did_of, hart_after, probes_of}
use Rattle.hart_model.specs.MachineStep.{machine_step}
use Rattle.hart_model.proofs.SmallTask.{small_context, machine_hart, empty_hart, latches_of}

-- slot 2 stands at 0x340: its address is in x5
abbrev slot : ℕ
slot = 0x340

abbrev tagged : ℕ → Cell
tagged value = record { value = value; tag = Of 3 2 (latches.Reg 6) }

abbrev many : ℕ → Cell
many value = record { value = value; tag = Many }

-- the hart that holds the context, with the slot's address in x5 and this cell in x6
abbrev with_x6 : Cell → HartState
with_x6 cell = hart_with_cell (hart_with_cell machine_hart (Reg 5) (public slot)) (Reg 6) cell

-- the step of one instruction there
abbrev step : ℕ → Cell → StepResult
step word cell = machine_step (word ∷ []) (with_x6 cell)

-- and the hart after it
abbrev after : ℕ → Cell → HartState
after word cell = hart_after (with_x6 cell) (step word cell)

-- the context that a hart holds; where it holds nothing, one that has ended
abbrev context_or : Option ContextState → ContextState
context_or (Some c) = c
context_or None = record (small_context []) { end = Some TapeEnd }

abbrev context_of : HartState → ContextState
context_of h = context_or h.held

-- add x7,x5,x6: a port takes the operand with its tag, a result of a tagged operand is of many
sum : hart_cell (after 0x006283b3 (tagged 3)) (Reg 7) ≡ many 0x343
unfolding machine_step
sum = refl

port_of_tagged : hart_cell (after 0x006283b3 (tagged 3)) PortB ≡ tagged 3
unfolding machine_step
port_of_tagged = refl

sum_of_public : hart_cell (after 0x006283b3 (public 3)) (Reg 7) ≡ public 0x343
unfolding machine_step
sum_of_public = refl

-- sw x6,20(x5): the slot word takes the cell
store : hart_cell (after 0x0062aa23 (tagged 3)) (SlotWord 5) ≡ tagged 3
unfolding machine_step
store = refl

-- sh x6,20(x5): a part of a tagged word is of many
half_store : hart_cell (after 0x00629a23 (tagged 3)) (SlotWord 5) ≡ many 3
unfolding machine_step
half_store = refl

-- lw x6,20(x5)
load : hart_cell (hart_after machine_hart (machine_step (0x0142a303 ∷ []) (hart_with_cell (with_x6 (public 0)) (SlotWord 5) (tagged 3)))) (Reg 6) ≡ tagged 3
unfolding machine_step
load = refl

-- sw x0,0x100(x0); lw x0,0x100(x0)
store_of_zero : did_of (step 0x10002023 (public 0)) ≡ dids.Ran
unfolding machine_step
store_of_zero = refl

load_of_zero : hart_cell (after 0x10002003 (public 0)) Load ≡ blank
unfolding machine_step
load_of_zero = refl

-- csrrw x5,mscratch,x5: Scr and x5 change places
scratch : hart_cell (after 0x340292f3 (public 0)) Scr ≡ public slot
unfolding machine_step csr_cell with_csr
scratch = refl

old_scratch : hart_cell (after 0x340292f3 (public 0)) (Reg 5) ≡ blank
unfolding machine_step csr_cell with_csr
old_scratch = refl

-- csrrw x0,mepc,x6: a public value, with the low two bits 0; a tagged one wedges
exception_pc : (after 0x34131073 (public 0x100007)).csrs.mepc ≡ 0x100004
unfolding machine_step csr_cell with_csr
exception_pc = refl

tagged_exception_pc : step 0x34131073 (tagged 0x100004) ≡ Wedged
unfolding machine_step csr_cell with_csr
tagged_exception_pc = refl

-- csrrw x0,pmpcfg0,x6: legal values alone
configuration : (after 0x3a031073 (public 0xffffffff)).csrs.pmp.cfg ≡ 0x1f1f1f1f
unfolding machine_step csr_cell with_csr
configuration = refl

-- csrrs x6,mhartid,x0 reads; csrrsi x6,mhartid,1 would write, though no bit would change; csrrs x1,mcycle,x0: no such CSR
hart_number : hart_cell (after 0xf1402373 (public 0)) (Reg 6) ≡ public 1
unfolding machine_step csr_cell with_csr
hart_number = refl

hart_number_written : step 0xf140e373 (public 0) ≡ Wedged
unfolding machine_step csr_cell with_csr
hart_number_written = refl

no_such_csr : step 0xb00020f3 (public 0) ≡ Wedged
unfolding machine_step csr_cell
no_such_csr = refl

-- wfi; ecall; ebreak; past the code; below it
illegal : step 0x10500073 (public 0) ≡ Wedged
unfolding machine_step
illegal = refl

ecall : step 0x00000073 (public 0) ≡ Wedged
unfolding machine_step
ecall = refl

ebreak : step 0x00100073 (public 0) ≡ Wedged
unfolding machine_step
ebreak = refl

past_code : machine_step (0x0ff0000f ∷ []) (record machine_hart { pc = 0x1004 }) ≡ Wedged
unfolding machine_step
past_code = refl

below_code : machine_step (0x0ff0000f ∷ []) (record machine_hart { pc = 0xffc }) ≡ Wedged
unfolding machine_step
below_code = refl

-- fence, also with an interrupt pending and enabled
fence : machine_step (0x0ff0000f ∷ []) (record machine_hart { csrs = record machine_hart.csrs { is_enabled = true; is_timer_pending = true } }) ≡
    Steps (record machine_hart { csrs = record machine_hart.csrs { is_enabled = true; is_timer_pending = true }; pc = 0x1004 }) [] dids.Ran
unfolding machine_step
fence = refl

-- jal x0,6; jalr x0,0(x6)
jal_misaligned : step 0x0060006f (public 0) ≡ Wedged
unfolding machine_step
jal_misaligned = refl

jalr : (after 0x00030067 (public 0x1010)).pc ≡ 0x1010
unfolding machine_step
jalr = refl

jalr_of_tagged : step 0x00030067 (tagged 0x1010) ≡ Wedged
unfolding machine_step
jalr_of_tagged = refl

-- beq x5,x0,8: a branch may ask a tagged operand
branch_on_tagged : did_of (machine_step (0x00028463 ∷ []) (hart_with_cell machine_hart (Reg 5) (tagged 0))) ≡ dids.Ran
unfolding machine_step
branch_on_tagged = refl

-- lw x6,0(x0); lw x6,0(x5) of another slot, of the data, and after the slot; sw x6,20(x5) with nothing held
load_of_nothing : step 0x00002303 (public 0) ≡ Wedged
unfolding machine_step
load_of_nothing = refl

abbrev load_at : ℕ → StepResult
load_at at = machine_step (0x0002a303 ∷ []) (hart_with_cell machine_hart (Reg 5) (public at))

load_of_slot : did_of (load_at 0x340) ≡ dids.Ran
unfolding machine_step
load_of_slot = refl

load_of_another_slot : load_at 0x200 ≡ Wedged
unfolding machine_step
load_of_another_slot = refl

load_of_data : load_at 0x108000 ≡ Wedged
unfolding machine_step
load_of_data = refl

load_after_slot : load_at 0x3d0 ≡ Wedged
unfolding machine_step
load_after_slot = refl

load_misaligned : load_at 0x342 ≡ Wedged
unfolding machine_step
load_misaligned = refl

store_without_context : machine_step (0x0062aa23 ∷ []) (hart_with_cell empty_hart (Reg 5) (public slot)) ≡ Wedged
unfolding machine_step
store_without_context = refl

-- lw x6,0x70c(x0): the tape; lb x6,0x70c(x0); sw x6,0x700(x0); lw x6,0x704(x0)
tape : hart_cell (after 0x70c02303 (public 0)) (Reg 6) ≡ record { value = 7; tag = Of 3 0 (latches.Reg 10) }
unfolding machine_step
tape = refl

tape_advanced : (context_of (after 0x70c02303 (public 0))).body.tape_at ≡ 1
unfolding machine_step
tape_advanced = refl

narrow_load_of_port : step 0x70c00303 (public 0) ≡ Wedged
unfolding machine_step
narrow_load_of_port = refl

store_to_loaded_port : step 0x70602023 (public 0) ≡ Wedged
unfolding machine_step
store_to_loaded_port = refl

load_of_stored_port : step 0x70402303 (public 0) ≡ Wedged
unfolding machine_step
load_of_stored_port = refl

-- lw x6,0x710(x0); lw x6,0x720(x0)
tape_left : hart_cell (after 0x71002303 (public 0)) (Reg 6) ≡ public 1
unfolding machine_step
tape_left = refl

out_left : hart_cell (after 0x72002303 (public 0)) (Reg 6) ≡ public 1
unfolding machine_step
out_left = refl

-- sw x6,0x708(x0); sw x6,0x714(x0); sw x6,0x718(x0); sw x6,0x71c(x0)
output : (context_of (after 0x70602423 (tagged 9))).body.output ≡ 9 ∷ []
unfolding machine_step
output = refl

exit : (context_of (after 0x70602a23 (tagged 9))).end ≡ Some (Exited 9)
unfolding machine_step
exit = refl

fault : (context_of (after 0x70602c23 (public 7))).end ≡ Some (Faulted 7 0x100000)
unfolding machine_step
fault = refl

fault_by_no_code : step 0x70602c23 (public 8) ≡ Wedged
unfolding machine_step
fault_by_no_code = refl

ack : (hart_after machine_hart (machine_step (0x70602e23 ∷ []) (tick_of machine_hart))).csrs.is_timer_pending ≡ false
unfolding machine_step
ack = refl

-- a store to a port writes no memory word
written_at_port : latches_of (probes_of (step 0x70602423 (tagged 9))) ≡ latches.PortA ∷ latches.PortB ∷ latches.Res ∷ latches.Store ∷ []
unfolding machine_step
written_at_port = refl

-- lw x5,0x700(x0), with nothing held: the queue is asked, with the writes of PortA and Res
take : machine_step (0x70002283 ∷ []) empty_hart ≡
    Wants calls.Take (record { at = PortA; cell = blank } ∷ record { at = Res; cell = public 0x700 } ∷ []) 5 0x1004
unfolding machine_step
take = refl

take_while_held : step 0x70002283 (public 0) ≡ Wedged
unfolding machine_step
take_while_held = refl

-- sw x6,0x704(x0): a give, with the writes of PortA, PortB, Res and Store
give_ready : step 0x70602223 (public 0) ≡
    Wants calls.GiveReady (record { at = PortA; cell = blank } ∷ record { at = PortB; cell = blank } ∷ record { at = Res; cell = public 0x704 } ∷ record { at = Store; cell = blank } ∷ []) 0 0x1004
unfolding machine_step
give_ready = refl

give_done_of_live : step 0x70602223 (public 1) ≡ Wedged
unfolding machine_step
give_done_of_live = refl

give_tagged : step 0x70602223 (tagged 0) ≡ Wedged
unfolding machine_step
give_tagged = refl

-- mret, back to user mode at mepc; where nothing is held it wedges, but for a return to machine mode
abbrev returning : Mode → HartState → HartState
returning mode h = record h { csrs = record h.csrs { previous = mode; mepc = 0x100004; was_enabled = true } }

mret : machine_step (0x30200073 ∷ []) (returning User machine_hart) ≡
    Steps (record machine_hart { csrs = record machine_hart.csrs { mode = User; is_enabled = true; was_enabled = true; previous = User; mepc = 0x100004 }; pc = 0x100004 }) [] dids.Ran
unfolding machine_step
mret = refl

mret_with_nothing : machine_step (0x30200073 ∷ []) (returning User empty_hart) ≡ Wedged
unfolding machine_step
mret_with_nothing = refl

mret_to_machine_mode : did_of (machine_step (0x30200073 ∷ []) (returning Machine empty_hart)) ≡ dids.Ran
unfolding machine_step
mret_to_machine_mode = refl
