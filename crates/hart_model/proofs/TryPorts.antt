-- Ports, computed.
use Rattle.std.proofs.Common.{◌≡◌, refl, ℕ, [], ◌∷◌, Some, None}
use Rattle.isa_model.specs.declared.latch.Latch.TheVariants.{Reg}
use Rattle.isa_model.specs.declared.ends.End.TheVariants.{Exited, Faulted, BadCall, TapeEnd, OutFull, OutOfSteps}
use Rattle.hart_model.specs.declared.port.Port.TheVariants.{Take, Give, Out, Tape, TapeLeft, Exit, Fault, Ack, OutLeft}
use Rattle.hart_model.specs.declared.calls.QueueCall.TheVariants as calls
use Rattle.hart_model.specs.declared.tag.Tag.TheVariants.{Of}
use Rattle.hart_model.specs.declared.tag.Cell.{Cell}
use Rattle.hart_model.specs.Csrs.{public}
use Rattle.hart_model.specs.Context.{ContextState}
use Rattle.hart_model.specs.Ports.{port_at, port_load, port_store, Passes, AsksQueue, Refuses, Nothing, Outputs, AdvancesTape, Ends, ClearsTimer}
use Rattle.hart_model.proofs.SmallTask.{small_body, small_context}

-- the context, with more of its run behind it
abbrev context : ContextState
context = small_context []

abbrev later_context : ContextState
later_context = record context { body = record (small_body []) { tape_at = 1; output = 9 ∷ []; count = 4 } }

abbrev ended_context : ContextState
ended_context = record context { end = Some TapeEnd }

abbrev tagged : ℕ → Cell
tagged value = record { value = value; tag = Of 3 2 (Reg 10) }

lowest : port_at 0x700 ≡ Some Take
lowest = refl

highest : port_at 0x720 ≡ Some OutLeft
highest = refl

past_highest : port_at 0x724 ≡ None
past_highest = refl

between_two : port_at 0x702 ≡ None
between_two = refl

take : port_load Take None ≡ AsksQueue calls.Take
take = refl

take_while_held : port_load Take (Some context) ≡ Refuses
take_while_held = refl

store_to_take : port_store Take (public 0) None ≡ Refuses
store_to_take = refl

load_from_give : port_load Give (Some context) ≡ Refuses
load_from_give = refl

tape : port_load Tape (Some context) ≡ Passes (record { value = 7; tag = Of 3 0 (Reg 10) }) AdvancesTape
tape = refl

tape_used_up : port_load Tape (Some later_context) ≡ Refuses
tape_used_up = refl

tape_left : port_load TapeLeft (Some context) ≡ Passes (public 1) Nothing
tape_left = refl

none_left : port_load TapeLeft (Some later_context) ≡ Passes (public 0) Nothing
none_left = refl

out_left : port_load OutLeft (Some context) ≡ Passes (public 1) Nothing
out_left = refl

out_left_without_context : port_load OutLeft None ≡ Refuses
out_left_without_context = refl

give_ready : port_store Give (public 0) (Some context) ≡ AsksQueue calls.GiveReady
give_ready = refl

give_ready_of_ended : port_store Give (public 0) (Some ended_context) ≡ Refuses
give_ready_of_ended = refl

give_done : port_store Give (public 1) (Some ended_context) ≡ AsksQueue calls.GiveDone
give_done = refl

give_done_of_live : port_store Give (public 1) (Some context) ≡ Refuses
give_done_of_live = refl

give_of_another_value : port_store Give (public 2) (Some ended_context) ≡ Refuses
give_of_another_value = refl

give_of_tagged : port_store Give (tagged 0) (Some context) ≡ Refuses
give_of_tagged = refl

give_of_nothing : port_store Give (public 0) None ≡ Refuses
give_of_nothing = refl

-- a tagged value may go out, and be an exit code
out : port_store Out (tagged 9) (Some context) ≡ Passes (tagged 9) (Outputs 9)
out = refl

out_without_room : port_store Out (tagged 9) (Some later_context) ≡ Refuses
out_without_room = refl

exit : port_store Exit (tagged 9) (Some context) ≡ Passes (tagged 9) (Ends (Exited 9))
exit = refl

exit_of_ended : port_store Exit (public 9) (Some ended_context) ≡ Refuses
exit_of_ended = refl

cause : port_store Fault (public 7) (Some context) ≡ Passes (public 7) (Ends (Faulted 7 0x100000))
cause = refl

cause_8 : port_store Fault (public 8) (Some context) ≡ Refuses
cause_8 = refl

tape_end : port_store Fault (public 0x100) (Some context) ≡ Passes (public 0x100) (Ends TapeEnd)
tape_end = refl

out_full : port_store Fault (public 0x101) (Some context) ≡ Passes (public 0x101) (Ends OutFull)
out_full = refl

bad_call : port_store Fault (public 0x102) (Some context) ≡ Passes (public 0x102) (Ends (BadCall 0))
bad_call = refl

out_of_steps : port_store Fault (public 0x80000010) (Some context) ≡ Passes (public 0x80000010) (Ends OutOfSteps)
out_of_steps = refl

fault_of_ended : port_store Fault (public 7) (Some ended_context) ≡ Refuses
fault_of_ended = refl

fault_of_tagged : port_store Fault (tagged 7) (Some context) ≡ Refuses
fault_of_tagged = refl

ack : port_store Ack (public 3) None ≡ Passes (public 3) ClearsTimer
ack = refl

ack_while_held : port_store Ack (public 3) (Some context) ≡ Passes (public 3) ClearsTimer
ack_while_held = refl

ack_of_tagged : port_store Ack (tagged 3) (Some context) ≡ Refuses
ack_of_tagged = refl
