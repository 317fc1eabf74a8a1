-- Where a hart stands between its ways through the kernel's code (this project's own): in user mode, at the ports of the queue, or in
-- the idle loop; and at a trap.
use Rattle.std.specs.Prelude.{◌≡◌, ℕ, ◌+◌, ◌*◌, ◌<◌, ◌≤◌, ◌⊎◌, List, length, slice_get, Some, None}
use Rattle.isa_model.specs.declared.task.Task.{Task}
use Rattle.isa_model.specs.declared.ends.End.{End}
use Rattle.isa_model.specs.declared.ends.End.TheVariants.{Faulted}
use Rattle.isa_model.specs.declared.latch.Latch.TheVariants as latches
use Rattle.isa_model.specs.TaskPlaces.{IsValidTask}
use Rattle.isa_model.specs.Alone.{alone_at, after_instr, after_call}
use Rattle.isa_model.specs.AloneValue.{alone_value}
use Rattle.hart_model.specs.declared.place.Place.{Place}
use Rattle.hart_model.specs.declared.place.Place.TheVariants.{Reg}
use Rattle.hart_model.specs.declared.tag.Mode.TheVariants.{Machine}
use Rattle.hart_model.specs.declared.tag.Tag.TheVariants.{Public}
use Rattle.hart_model.specs.Cells.{blank}
use Rattle.hart_model.specs.Csrs.{public}
use Rattle.hart_model.specs.Traps.{fuel_cause, timer_cause}
use Rattle.hart_model.specs.Context.{ContextState, IsScrubbed, done_of, slot_len, pc_word, slot_word, data_word, slot_address, task_of}
use Rattle.hart_model.specs.HartState.{HartState, hart_cell}
use Rattle.hart_model.specs.MachineStep.{kernel_address}
use Rattle.core_model.specs.Soundness.{AreCsrsSound, IsEndedCase, IsTruthful, IsOwn, IsRunning, HasBounds}
use Rattle.core_model.specs.Routines.{IsUserState, IsReadyContext, IsLatchPlace, IsTrapped}
use Rattle.symbolic_run.specs.Ways.{Leads}
use Rattle.core_invariant.specs.KernelStates.{KernelParts, middle_at, idle_at, give_ready_index, give_done_index, take_index}

-- A hart that has just trapped from user mode by a cause, whose task had executed n instructions before the step that trapped: its
-- registers and its data words are as then, and its other latches say the truth.
pub record IsAtTrap (tasks : List Task) (number n cause : ℕ) (h : HartState) (c : ContextState) : Type 0 where
  pub trapped : IsTrapped tasks number n h c
  pub mode : h.csrs.mode ≡ Machine
  pub csrs : AreCsrsSound number h.csrs
  pub pc : h.pc ≡ kernel_address
  pub mepc : h.csrs.mepc ≡ (alone_at (task_of c.body) n).pc
  pub mcause : h.csrs.mcause ≡ cause
  pub held : h.held ≡ Some c
  pub is_task : slice_get tasks c.body.task_no ≡ Some (task_of c.body)
  pub valid : IsValidTask (task_of c.body)
  pub slot : c.slot < 8
  pub no_end : c.end ≡ None
  pub before_fuel : n ≤ c.body.fuel
  pub is_running : IsRunning (task_of c.body) n
  pub output : c.body.output ≡ (alone_at (task_of c.body) n).output
  pub tape_at : c.body.tape_at ≡ (alone_at (task_of c.body) n).tape_at
  pub registers_len : length h.regs ≡ 32
  pub registers : (i : ℕ) → 1 ≤ i → i < 32 → IsOwn c.body.task_no (task_of c.body) n (latches.Reg i) (hart_cell h (Reg i))
  pub truthful : (p : Place) → IsTruthful tasks (hart_cell h p)
  pub zero_word : h.zero_word ≡ blank
  pub scratch : h.csrs.mscratch ≡ public (slot_address c.slot)
  pub bound_registers : length h.csrs.pmp.addrs ≡ 4
  pub words : length c.words ≡ slot_len
  pub saved_pc : (slot_word c pc_word).tag ≡ Public
  pub bounds : HasBounds c
  pub data_words : (i : ℕ) → i < length c.body.data_words
      → IsOwn c.body.task_no (task_of c.body) n (latches.Mem (c.body.data_at + 4 * i)) (data_word c.body i)

-- The timer interrupts a task that goes on later.
pub record IsTimerTrap (tasks : List Task) (number : ℕ) (h : HartState) (c : ContextState) : Type 0 where
  pub trap : IsAtTrap tasks number c.body.count timer_cause h c
  pub goes_on : (alone_at (task_of c.body) c.body.count).end ≡ None

-- A task has used its fuel.
pub record IsFuelTrap (tasks : List Task) (number : ℕ) (h : HartState) (c : ContextState) : Type 0 where
  pub trap : IsAtTrap tasks number c.body.count fuel_cause h c
  pub is_used : c.body.count ≡ c.body.fuel

-- An instruction faults, as it does in the run alone.
pub record IsFaultTrap (tasks : List Task) (number n cause : ℕ) (h : HartState) (c : ContextState) : Type 0 where
  pub trap : IsAtTrap tasks number n cause h c
  pub count : c.body.count ≡ n + 1
  pub fuel_left : n < c.body.fuel
  pub is_low : cause < 8
  pub went_on : (alone_at (task_of c.body) n).end ≡ None
  pub ends : (after_instr (task_of c.body) (alone_at (task_of c.body) n)).state.end ≡ Some (Faulted cause (alone_at (task_of c.body) n).pc)
  pub output : (after_instr (task_of c.body) (alone_at (task_of c.body) n)).state.output ≡ (alone_at (task_of c.body) n).output

-- A task calls a service, as it does in the run alone.
pub record IsCallTrap (tasks : List Task) (number n : ℕ) (h : HartState) (c : ContextState) : Type 0 where
  pub trap : IsAtTrap tasks number n 8 h c
  pub count : c.body.count ≡ n + 1
  pub fuel_left : n < c.body.fuel
  pub went_on : (alone_at (task_of c.body) n).end ≡ None
  pub serves : after_instr (task_of c.body) (alone_at (task_of c.body) n)
      ≡ after_call (task_of c.body) (alone_value (task_of c.body) n (latches.Reg 17)) (alone_value (task_of c.body) n (latches.Reg 10))
      (alone_at (task_of c.body) n)

-- An ended context as it may be given.
pub record IsDoneContext (tasks : List Task) (c : ContextState) : Type 0 where
  pub end : End
  pub has_end : c.end ≡ Some end
  pub ended : IsEndedCase tasks (done_of c end)
  pub scrubbed : IsScrubbed c
  pub words : length c.words ≡ slot_len
  pub slot : c.slot < 8

-- A hart in machine mode in whose latches nothing of a task is, at an address.
pub record HasPublicLatches (tasks : List Task) (number at : ℕ) (h : HartState) : Type 0 where
  pub mode : h.csrs.mode ≡ Machine
  pub csrs : AreCsrsSound number h.csrs
  pub pc : h.pc ≡ at
  pub registers : length h.regs ≡ 32
  pub zero_word : h.zero_word ≡ blank
  pub bound_registers : length h.csrs.pmp.addrs ≡ 4
  pub latches : (p : Place) → IsLatchPlace p → (hart_cell h p).tag ≡ Public

-- It holds nothing.
pub record IsEmptyHanded (tasks : List Task) (number at : ℕ) (h : HartState) : Type 0 where
  pub hart : HasPublicLatches tasks number at h
  pub held : h.held ≡ None

-- It is about to give a ready context, or an ended one; then x6 is 1.
pub record IsGivingReady (tasks : List Task) (number at : ℕ) (h : HartState) (c : ContextState) : Type 0 where
  pub hart : HasPublicLatches tasks number at h
  pub held : h.held ≡ Some c
  pub truthful : (p : Place) → IsTruthful tasks (hart_cell h p)
  pub given : IsReadyContext tasks c

pub record IsGivingDone (tasks : List Task) (number at : ℕ) (h : HartState) (c : ContextState) : Type 0 where
  pub hart : HasPublicLatches tasks number at h
  pub held : h.held ≡ Some c
  pub truthful : (p : Place) → IsTruthful tasks (hart_cell h p)
  pub given : IsDoneContext tasks c
  pub x6 : hart_cell h (Reg 6) ≡ public 1

-- In user mode; at a give; at the take; in the idle loop.
abbrev pub IsAtCutPoint : List Task → KernelParts → ℕ → HartState → Type 0
IsAtCutPoint tasks k number h =
    ((c : ContextState) × IsUserState tasks number h c)
    ⊎ (((c : ContextState) × IsGivingReady tasks number (middle_at k + 4 * give_ready_index) h c)
    ⊎ (((c : ContextState) × IsGivingDone tasks number (middle_at k + 4 * give_done_index) h c)
    ⊎ (IsEmptyHanded tasks number (middle_at k + 4 * take_index) h
    ⊎ IsEmptyHanded tasks number (idle_at k) h)))

-- so many steps at most lead there
abbrev pub IsOnItsWay : List Task → KernelParts → ℕ → HartState → Type 0
IsOnItsWay tasks k number h = (steps : ℕ) × Leads tasks k.code.words number steps (IsAtCutPoint tasks k number) h
