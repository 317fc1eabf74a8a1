-- A step of a hart in user mode: an interrupt, or one instruction of the task that it holds, under physical memory protection.
use Rattle.std.specs.Prelude.{ℕ, ◌+◌, Bool, true, false, List, [], Option, Some, None, ◌==◌, if◌then◌else◌}
use Rattle.isa_model.specs.declared.instr.Instr.{Instr}
use Rattle.isa_model.specs.declared.instr.Instr.TheVariants.{Load, Store}
use Rattle.isa_model.specs.declared.latch.Latch.{Latch}
use Rattle.isa_model.specs.Arithmetic.{load_size, store_size}
use Rattle.isa_model.specs.InstrTable.{instr_of}
use Rattle.isa_model.specs.Effect.{Effect, Operands, Next, Goes, Raises, Calls, Returns, effect_of, does, address}
use Rattle.isa_model.specs.Alone.{code_word_at, operands_of, is_privileged}
use Rattle.hart_model.specs.declared.access.Access.TheVariants.{Read, Write, Fetch}
use Rattle.hart_model.specs.declared.calls.Did.TheVariants.{Ran, Trapped}
use Rattle.hart_model.specs.declared.tag.Cell.{Cell}
use Rattle.hart_model.specs.declared.tag.Mode.TheVariants.{User}
use Rattle.hart_model.specs.Pmp.{PmpFile, is_allowed}
use Rattle.hart_model.specs.Taint.{user_tag}
use Rattle.hart_model.specs.Traps.{csrs_after_trap, interrupt_of}
use Rattle.hart_model.specs.Context.{ContextState, BodyState, task_of}
use Rattle.hart_model.specs.HartState.{HartState, bases_of, latch_cell}
use Rattle.hart_model.specs.Writes.{HartAndProbes, CellWrite, cell_writes, after_writes}
use Rattle.hart_model.specs.StepResult.{StepResult, Steps}

-- the value of a latch of the hart, and 0 for one that it hasn't
abbrev pub value_of_cell : Option Cell → ℕ
value_of_cell None = 0
value_of_cell (Some cell) = cell.value

abbrev pub latch_value : HartState → Latch → ℕ
latch_value h latch = value_of_cell (latch_cell h latch)

-- whether the protection lets user mode do the load or the store of an instruction, by the value of rs1
abbrev pub is_access_allowed : PmpFile → Instr → ℕ → Bool
is_access_allowed pmp (Load kind rd rs1 imm) first = is_allowed User pmp (address first imm) (load_size kind) Read
is_access_allowed pmp (Store kind rs2 rs1 imm) first = is_allowed User pmp (address first imm) (store_size kind) Write
is_access_allowed pmp instr first = true

-- The operands of an instruction: those of the task with the hart's values, and a memory word only where the protection allows it.
-- So user mode reaches the words of its task alone.
abbrev pub user_operands : HartState → BodyState → Instr → Operands
user_operands h b instr =
    let o = operands_of (task_of b) (latch_value h) instr in
    record o { word = if is_access_allowed h.csrs.pmp instr o.rs1 then o.word else None }

-- the code word at the pc, where the protection allows its fetch
abbrev pub user_code_word : HartState → BodyState → Option ℕ
user_code_word h b = if is_allowed User h.csrs.pmp h.pc 4 Fetch then code_word_at (task_of b) h.pc else None

-- an exception before anything is written
abbrev pub exception : ℕ → Effect
exception cause = does [] (Raises cause)

-- The effect of the instruction at the pc, by the order of the checks: fetch access (cause 1), decoding and privilege (2), and then
-- those of its row.
abbrev pub user_effect_of_instr : HartState → BodyState → Option Instr → Effect
user_effect_of_instr h b None = exception 2
user_effect_of_instr h b (Some instr) = if is_privileged instr then exception 2 else effect_of instr h.pc (user_operands h b instr)

abbrev pub user_effect_of_word : HartState → BodyState → Option ℕ → Effect
user_effect_of_word h b None = exception 1
user_effect_of_word h b (Some word) = user_effect_of_instr h b (instr_of word)

abbrev pub user_effect : HartState → BodyState → Effect
user_effect h b = user_effect_of_word h b (user_code_word h b)

-- the writes of an effect, each with the tag of the task's next step and of its latch
abbrev pub user_writes : HartState → BodyState → Effect → List CellWrite
user_writes h b e = cell_writes (bases_of h.held) (λ w. user_tag b.task_no b.count w.to) e.writes

-- the hart whose task has executed one instruction more
abbrev pub held_with_next_count : Option ContextState → Option ContextState
held_with_next_count None = None
held_with_next_count (Some c) = Some (record c { body = record c.body { count = c.body.count + 1 } })

abbrev pub with_next_count : HartState → HartState
with_next_count h = record h { held = held_with_next_count h.held }

-- a trap at the pc (privileged manual, "Machine Trap-Vector Base-Address Register"): the hart goes on at mtvec
abbrev pub after_trap : HartAndProbes → ℕ → StepResult
after_trap a cause = Steps (record a.hart { csrs = csrs_after_trap a.hart.csrs cause a.hart.pc; pc = a.hart.csrs.mtvec }) a.probes (Trapped cause)

-- What follows the writes of an instruction. ECALL is the exception of its own cause; the writes of an instruction that traps are kept.
abbrev pub after_user_writes : HartAndProbes → Next → StepResult
after_user_writes a (Goes pc) = Steps (record a.hart { pc = pc }) a.probes Ran
after_user_writes a (Raises cause) = after_trap a cause
after_user_writes a Calls = after_trap a 8
after_user_writes a Returns = after_trap a 2

-- one instruction: its writes, then the count, and then what follows
abbrev pub after_user_effect : HartState → BodyState → Effect → StepResult
after_user_effect h b e =
    let a = after_writes (user_writes h b e) h in
    after_user_writes (record { hart = with_next_count a.hart; probes = a.probes }) e.next

abbrev pub no_writes : HartState → HartAndProbes
no_writes h = record { hart = h; probes = [] }

-- An instruction of what is held. Where nothing is, there is no word to fetch.
abbrev pub user_instr_step : HartState → Option ContextState → StepResult
user_instr_step h None = after_trap (no_writes h) 1
user_instr_step h (Some c) = after_user_effect h c.body (user_effect h c.body)

-- an interrupt makes no entry and leaves the count
abbrev pub by_interrupt : HartState → Option ℕ → StepResult
by_interrupt h (Some cause) = after_trap (no_writes h) cause
by_interrupt h None = user_instr_step h h.held

-- whether what is held has used its fuel
abbrev pub is_fuel_used : Option ContextState → Bool
is_fuel_used None = false
is_fuel_used (Some c) = c.body.count == c.body.fuel

-- A step in user mode: the interrupt of used fuel, else that of the timer, each only where it is enabled; else one instruction.
unfoldable pub user_step : HartState → StepResult
user_step h = by_interrupt h (interrupt_of h.csrs (is_fuel_used h.held))
