-- The run alone: a task on an uninterrupted hart of its own, without kernel, protection unit, slot, queue or scrubbing. Its
-- state after n instructions.
use Rattle.std.specs.Prelude.{ℕ, zero, suc, ◌+◌, ◌-◌, ◌*◌, ◌/◌, Bool, true, false, ◌&&◌, List, [], ◌∷◌, ◌++◌, length, Option, Some, None, slice_get, is_none, nat_lt, nat_le, ◌==◌, if◌then◌else◌}
use Rattle.isa_model.specs.declared.instr.Instr.{Instr}
use Rattle.isa_model.specs.declared.instr.Instr.TheVariants.{Jalr, Branch, Load, Store, AluImm, AluReg, Mret, Csr, CsrImm}
use Rattle.isa_model.specs.declared.latch.Latch.{Latch}
use Rattle.isa_model.specs.declared.latch.Latch.TheVariants as latches
use Rattle.isa_model.specs.declared.ends.End.{End}
use Rattle.isa_model.specs.declared.ends.End.TheVariants.{Exited, Faulted, BadCall, TapeEnd, OutFull, OutOfSteps}
use Rattle.isa_model.specs.declared.ends.EndKind.{EndKind}
use Rattle.isa_model.specs.declared.ends.EndKind.TheVariants as kinds
use Rattle.isa_model.specs.declared.control.Deed.{Deed}
use Rattle.isa_model.specs.declared.control.Deed.TheVariants.{Ran, Stored, Called, Ended}
use Rattle.isa_model.specs.declared.task.Task.{Task}
use Rattle.isa_model.specs.Bits.{low_word, word_address}
use Rattle.isa_model.specs.InstrTable.{instr_of}
use Rattle.isa_model.specs.LatchOrder.{same_latch}
use Rattle.isa_model.specs.Effect.{Effect, Write, Operands, Next, Goes, Raises, Calls, Returns, effect_of, address}

pub record AloneState : Type 0 where
  pub value : Latch → ℕ
  pub pc : ℕ
  pub output : List ℕ
  pub tape_at : ℕ
  pub end : Option End

abbrev pub start_of : Task → AloneState
start_of T = record { value = λ l. 0; pc = T.code_at; output = []; tape_at = 0; end = None }

-- the values with one of them changed
abbrev pub with_value : Latch → ℕ → (Latch → ℕ) → Latch → ℕ
with_value latch new value l = if same_latch latch l then new else value l

-- the values after writes, the first one first
abbrev pub values_after : List Write → (Latch → ℕ) → Latch → ℕ
values_after [] value = value
values_after (w ∷ ws) value = values_after ws (with_value w.to w.value value)

-- the code word that an address lies in
abbrev pub code_word_at : Task → ℕ → Option ℕ
code_word_at T at = if nat_le T.code_at at then slice_get T.code ((at - T.code_at) / 4) else None

-- whether an address lies in the data
abbrev pub is_data_address : Task → ℕ → Bool
is_data_address T at = nat_le T.data_at at && nat_lt at (T.data_at + 4 * T.data_len)

-- the data word that an address lies in
abbrev pub data_word_at : Task → (Latch → ℕ) → ℕ → Option ℕ
data_word_at T value at = if is_data_address T at then Some (value (latches.Mem (word_address at))) else None

-- a code word, else this
abbrev pub word_or_else : Option ℕ → Option ℕ → Option ℕ
word_or_else (Some word) other = Some word
word_or_else None other = other

-- the memory word that a load or a store may reach: a load reaches code and data, a store the data alone
abbrev pub word_reached : Task → (Latch → ℕ) → Instr → ℕ → Option ℕ
word_reached T value (Load kind rd rs1 imm) first = word_or_else (code_word_at T (address first imm)) (data_word_at T value (address first imm))
word_reached T value (Store kind rs2 rs1 imm) first = data_word_at T value (address first imm)
word_reached T value _ first = None

-- the number of rs1, and 0 for a form without it
abbrev pub rs1_of : Instr → ℕ
rs1_of (Jalr rd rs1 imm) = rs1
rs1_of (Branch op rs1 rs2 off) = rs1
rs1_of (Load kind rd rs1 imm) = rs1
rs1_of (Store kind rs2 rs1 imm) = rs1
rs1_of (AluImm op rd rs1 imm) = rs1
rs1_of (AluReg op rd rs1 rs2) = rs1
rs1_of (Csr op rd rs1 csr) = rs1
rs1_of _ = 0

-- the number of rs2, and 0 for a form without it
abbrev pub rs2_of : Instr → ℕ
rs2_of (Branch op rs1 rs2 off) = rs2
rs2_of (Store kind rs2 rs1 imm) = rs2
rs2_of (AluReg op rd rs1 rs2) = rs2
rs2_of _ = 0

abbrev pub operands_of : Task → (Latch → ℕ) → Instr → Operands
operands_of T value instr = record {
  rs1 = value (latches.Reg (rs1_of instr));
  rs2 = value (latches.Reg (rs2_of instr));
  word = word_reached T value instr (value (latches.Reg (rs1_of instr)));
  old_csr = 0;
}

-- CSR instructions and MRET are illegal in user mode (this project's own: it has no CSR for user mode)
abbrev pub is_privileged : Instr → Bool
is_privileged Mret = true
is_privileged (Csr op rd rs1 csr) = true
is_privileged (CsrImm op rd uimm csr) = true
is_privileged _ = false

-- what an instruction leaves, and what others may see of it
pub record Executed : Type 0 where
  pub state : AloneState
  pub deed : Deed

-- an exception, by its cause
abbrev pub after_fault : ℕ → AloneState → Executed
after_fault cause s = record { state = record s { end = Some (Faulted cause s.pc) }; deed = Ended (kinds.Faulted cause) }

-- an end by a service
abbrev pub after_end : End → EndKind → AloneState → Executed
after_end end kind s = record { state = record s { end = Some end }; deed = Ended kind }

-- a service that doesn't end the task goes on after its ECALL
abbrev pub after_service : ℕ → AloneState → Executed
after_service number s = record { state = record s { pc = low_word (s.pc + 4) }; deed = Called number }

-- out: a word more, while there is room
abbrev pub after_out : Task → ℕ → AloneState → Executed
after_out T word s =
    if nat_lt (length s.output) T.out_max then after_service 1 (record s { output = s.output ++ word ∷ [] }) else after_end OutFull kinds.OutFull s

-- in: the next tape word into a0, while there is one
abbrev pub after_in : Option ℕ → AloneState → Executed
after_in None s = after_end TapeEnd kinds.TapeEnd s
after_in (Some word) s = after_service 2 (record s { value = with_value (latches.Reg 10) word s.value; tape_at = s.tape_at + 1 })

-- a service, by the values of a7 and a0
abbrev pub after_call : Task → ℕ → ℕ → AloneState → Executed
after_call T a7 a0 s =
    if a7 == 0 then after_end (Exited a0) kinds.Exited s
    else if a7 == 1 then after_out T a0 s
    else if a7 == 2 then after_in (slice_get T.tape s.tape_at) s
    else if a7 == 3 then after_service 3 s
    else after_end (BadCall a7) (kinds.BadCall a7) s

-- what a store does is seen by its address; nothing else is
abbrev pub deed_of : Instr → ℕ → Deed
deed_of (Store kind rs2 rs1 imm) first = Stored (word_address (address first imm))
deed_of _ first = Ran

-- what follows the writes of an instruction
abbrev pub after_writes : Task → Deed → Next → AloneState → Executed
after_writes T deed (Goes pc) s = record { state = record s { pc = pc }; deed = deed }
after_writes T deed (Raises cause) s = after_fault cause s
after_writes T deed Calls s = after_call T (s.value (latches.Reg 17)) (s.value (latches.Reg 10)) s
after_writes T deed Returns s = after_fault 2 s

abbrev pub after_effect : Task → Deed → Effect → AloneState → Executed
after_effect T deed e s = after_writes T deed e.next (record s { value = values_after e.writes s.value })

-- an instruction that was decoded
abbrev pub after_decode : Task → Option Instr → AloneState → Executed
after_decode T None s = after_fault 2 s
after_decode T (Some instr) s =
    if is_privileged instr then after_fault 2 s
    else after_effect T (deed_of instr (s.value (latches.Reg (rs1_of instr)))) (effect_of instr s.pc (operands_of T s.value instr)) s

-- a word that was fetched
abbrev pub after_fetch : Task → Option ℕ → AloneState → Executed
after_fetch T None s = after_fault 1 s
after_fetch T (Some word) s = after_decode T (instr_of word) s

-- one instruction
unfoldable pub after_instr : Task → AloneState → Executed
after_instr T s = after_fetch T (code_word_at T s.pc) s

-- used fuel ends a task that nothing else has ended
abbrev pub if_fuel_used : Task → ℕ → Option End → AloneState → AloneState
if_fuel_used T n (Some e) s = s
if_fuel_used T n None s = if n == T.fuel then record s { end = Some OutOfSteps } else s

abbrev pub fuel_checked_state : Task → ℕ → AloneState → AloneState
fuel_checked_state T n s = if_fuel_used T n s.end s

-- an ended task stays as it is
abbrev pub unless_ended : Task → ℕ → Option End → AloneState → AloneState
unless_ended T n (Some e) s = s
unless_ended T n None s = fuel_checked_state T n (after_instr T s).state

-- The state of a task after n instructions.
unfoldable pub alone_at : Task → ℕ → AloneState
alone_at T zero = start_of T
alone_at T (suc n) = unless_ended T (n + 1) (alone_at T n).end (alone_at T n)

-- how many of the first n instructions are executed
unfoldable pub count_to : Task → ℕ → ℕ
count_to T zero = 0
count_to T (suc n) = if is_none (alone_at T n).end then count_to T n + 1 else count_to T n

-- the run alone as a whole: its last state, and how many instructions are executed
abbrev pub last_of : Task → AloneState
last_of T = alone_at T T.fuel

abbrev pub count_of : Task → ℕ
count_of T = count_to T T.fuel
