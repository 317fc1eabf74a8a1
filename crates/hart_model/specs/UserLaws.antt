-- What an instruction of a hart in user mode has to do with the same instruction of the run alone. Each is the contract of a law in
-- `src/user_laws.rt`.
use Rattle.std.specs.Prelude.{◌≡◌, ℕ, ◌+◌, ◌%◌, ◌<◌, ◌⊎◌, true, List, length, Option, Some, None, if◌then◌else◌, All, map}
use Rattle.isa_model.specs.declared.task.Task.{Task}
use Rattle.isa_model.specs.declared.latch.Latch.{Latch}
use Rattle.isa_model.specs.declared.latch.Latch.TheVariants.{Reg, Scr, Mem}
use Rattle.isa_model.specs.declared.instr.Instr.{Instr}
use Rattle.isa_model.specs.declared.ends.End.TheVariants.{Faulted}
use Rattle.isa_model.specs.InstrTable.{instr_of}
use Rattle.isa_model.specs.Effect.{Effect, Write, effect_of}
use Rattle.isa_model.specs.TaskPlaces.{IsValidTask}
use Rattle.isa_model.specs.Alone.{AloneState, code_word_at, is_data_address, is_privileged, operands_of, values_after, after_instr, after_call}
use Rattle.hart_model.specs.declared.tag.Mode.TheVariants.{User}
use Rattle.hart_model.specs.declared.tag.Tag.TheVariants.{Of}
use Rattle.hart_model.specs.declared.calls.Did.TheVariants.{Ran, Trapped}
use Rattle.hart_model.specs.declared.probe.Probe.{Probe}
use Rattle.hart_model.specs.declared.tag.Cell.{Cell}
use Rattle.hart_model.specs.Cells.{blank}
use Rattle.hart_model.specs.Probes.{probe_of}
use Rattle.hart_model.specs.Pmp.{task_pmp}
use Rattle.hart_model.specs.Traps.{csrs_after_trap, interrupt_of}
use Rattle.hart_model.specs.Context.{BodyState, ContextState, task_of}
use Rattle.hart_model.specs.HartState.{HartState, latch_cell}
use Rattle.hart_model.specs.StepResult.{Steps, hart_after, probes_of}
use Rattle.hart_model.specs.UserStep.{latch_value, exception, user_effect, user_step, is_fuel_used}

-- the latches by whose values a task's run goes on: its registers and its data words
abbrev pub IsTaskLatch : Task → Latch → Type 0
IsTaskLatch T (Reg r) = r < 32
IsTaskLatch T (Mem at) = (is_data_address T at ≡ true) × (at % 4 ≡ 0)
IsTaskLatch T latch = ⊥

-- A hart in user mode stands where the run alone of the task that it holds does: with the boot configuration and the task's bounds in
-- its protection, at the same pc, with the same values of registers and data words, the same output and the same tape position.
pub record IsAtRunAlone (T : Task) (s : AloneState) (h : HartState) (c : ContextState) : Type 0 where
  pub held : h.held ≡ Some c
  pub task : task_of c.body ≡ T
  pub slot : c.slot < 8
  pub registers : length h.regs ≡ 32
  pub mode : h.csrs.mode ≡ User
  pub pmp : h.csrs.pmp ≡ task_pmp T
  pub pc : h.pc ≡ s.pc
  pub pc_aligned : s.pc % 4 ≡ 0
  pub values : (l : Latch) → IsTaskLatch T l → latch_value h l ≡ s.value l
  pub output : c.body.output ≡ s.output
  pub tape_at : c.body.tape_at ≡ s.tape_at

-- the effect of the run alone's instruction, by the order of the checks
abbrev pub alone_effect_of_instr : Task → AloneState → Option Instr → Effect
alone_effect_of_instr T s None = exception 2
alone_effect_of_instr T s (Some instr) = if is_privileged instr then exception 2 else effect_of instr s.pc (operands_of T s.value instr)

abbrev pub alone_effect_of_word : Task → AloneState → Option ℕ → Effect
alone_effect_of_word T s None = exception 1
alone_effect_of_word T s (Some word) = alone_effect_of_instr T s (instr_of word)

abbrev pub alone_effect : Task → AloneState → Effect
alone_effect T s = alone_effect_of_word T s (code_word_at T s.pc)

-- Both go on: the hart stands where the run alone does after the instruction. Only registers, ports, Res, Load, Store, Mul and data
-- words have changed, and the count is one more.
pub record GoesOnAlone (T : Task) (s : AloneState) (h : HartState) (c : ContextState) : Type 0 where
  pub hart : HartState
  pub context : ContextState
  pub probes : List Probe
  pub step : user_step h ≡ Steps hart probes Ran
  pub alone : IsAtRunAlone T (after_instr T s).state hart context
  pub end_stays : (after_instr T s).state.end ≡ s.end
  pub csrs : hart.csrs ≡ h.csrs
  pub zero_word : hart.zero_word ≡ h.zero_word
  pub rest : context ≡ record c { body = record c.body { data_words = context.body.data_words; count = c.body.count + 1 } }

-- The hart traps by a cause: no register and no word has changed, and the count is one more.
pub record TrapsBy (cause : ℕ) (h : HartState) (c : ContextState) : Type 0 where
  pub hart : HartState
  pub probes : List Probe
  pub step : user_step h ≡ Steps hart probes (Trapped cause)
  pub pc : hart.pc ≡ h.csrs.mtvec
  pub csrs : hart.csrs ≡ csrs_after_trap h.csrs cause h.pc
  pub registers : hart.regs ≡ h.regs
  pub zero_word : hart.zero_word ≡ h.zero_word
  pub held : hart.held ≡ Some (record c { body = record c.body { count = c.body.count + 1 } })

-- Both fault by this cause, which is one of the exceptions below 8: the run alone ends as faulted at the pc, with no register and no
-- word changed.
pub record FaultsAlone (T : Task) (s : AloneState) (h : HartState) (c : ContextState) (cause : ℕ) : Type 0 where
  pub traps : TrapsBy cause h c
  pub is_low : cause < 8
  pub ends : (after_instr T s).state.end ≡ Some (Faulted cause s.pc)
  pub values : (l : Latch) → IsTaskLatch T l → (after_instr T s).state.value l ≡ s.value l
  pub pc : (after_instr T s).state.pc ≡ s.pc
  pub output : (after_instr T s).state.output ≡ s.output
  pub tape_at : (after_instr T s).state.tape_at ≡ s.tape_at

-- Both call a service: the hart traps as for ECALL, and the run alone does the service that a7 and a0 tell.
pub record CallsAlone (T : Task) (s : AloneState) (h : HartState) (c : ContextState) : Type 0 where
  pub traps : TrapsBy 8 h c
  pub serves : after_instr T s ≡ after_call T (s.value (Reg 17)) (s.value (Reg 10)) s

-- The instruction has one effect, on the hart and alone: the same writes with the same values in the same order, and the same that
-- follows. And both go on, fault or call alike.
pub record IsInstrAlone (T : Task) (s : AloneState) (h : HartState) (c : ContextState) : Type 0 where
  pub effect : user_effect h c.body ≡ alone_effect T s
  pub follows : GoesOnAlone T s h c ⊎ ((cause : ℕ) × FaultsAlone T s h c cause) ⊎ CallsAlone T s h c

-- Where no interrupt is due, a step in user mode does what the run alone does by one instruction, whatever the instruction is.
abbrev pub UserStepIsRunAlone : Type 0
UserStepIsRunAlone = (T : Task) → IsValidTask T → (s : AloneState) (h : HartState) (c : ContextState) →
    IsAtRunAlone T s h c → interrupt_of h.csrs (is_fuel_used h.held) ≡ None → IsInstrAlone T s h c

-- the latches that an instruction of a task may write, but for x0, which keeps its 0
abbrev pub IsRunLatch : Task → Latch → Type 0
IsRunLatch T (Reg r) = r < 32
IsRunLatch T (Mem at) = IsTaskLatch T (Mem at)
IsRunLatch T Scr = ⊥
IsRunLatch T latch = Unit {0}

-- the values of the run alone after the writes of its instruction
abbrev pub written_value : Task → AloneState → Latch → ℕ
written_value T s l = values_after (alone_effect T s).writes s.value l

-- A latch holds the value of the run alone after the instruction, with the tag of the task's next step and of itself; or the
-- instruction didn't write it, on the hart or alone.
abbrev pub IsOwnOrKept : Task → AloneState → HartState → ContextState → HartState → Latch → Type 0
IsOwnOrKept T s h c g l =
    (latch_cell g l ≡ Some (record { value = written_value T s l; tag = Of c.body.task_no (c.body.count + 1) l }))
    ⊎ ((latch_cell g l ≡ latch_cell h l) × (written_value T s l ≡ s.value l))

abbrev pub cell_or_blank : Option Cell → Cell
cell_or_blank None = blank
cell_or_blank (Some cell) = cell

-- the entry of a write in user mode, from the cell that stood in the latch before the instruction
abbrev pub user_entry : HartState → BodyState → Write → Probe
user_entry h b w =
    probe_of h.csrs.hart h.pc User w.to (cell_or_blank (latch_cell h w.to)) (record { value = w.value; tag = Of b.task_no (b.count + 1) w.to })

-- What an instruction in user mode writes: the values of the run alone, with their own tags; each write makes one entry, in order.
pub record WritesOwn (T : Task) (s : AloneState) (h : HartState) (c : ContextState) : Type 0 where
  pub latches : All (λ w. IsRunLatch T w.to) (alone_effect T s).writes
  pub values : All (λ w. w.value ≡ written_value T s w.to) (alone_effect T s).writes
  pub entries : probes_of (user_step h) ≡ map (user_entry h c.body) (alone_effect T s).writes
  pub cells : (l : Latch) → IsRunLatch T l → IsOwnOrKept T s h c (hart_after h (user_step h)) l

-- Where no interrupt is due, a step in user mode writes its own values alone.
abbrev pub UserStepWritesOwn : Type 0
UserStepWritesOwn = (T : Task) → IsValidTask T → (s : AloneState) (h : HartState) (c : ContextState) →
    IsAtRunAlone T s h c → interrupt_of h.csrs (is_fuel_used h.held) ≡ None → WritesOwn T s h c
