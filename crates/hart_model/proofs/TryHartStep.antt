-- Steps by the mode and answered queue actions, computed.
use Rattle.std.proofs.Common.{◌≡◌, refl, ℕ, List, [], ◌∷◌, Some, None}
use Rattle.isa_model.specs.declared.latch.Latch.{Latch}
use Rattle.isa_model.specs.declared.latch.Latch.TheVariants as latches
use Rattle.hart_model.specs.declared.place.Place.TheVariants.{Reg, PortA, PortB, Res, Store}
use Rattle.hart_model.specs.declared.tag.Tag.TheVariants.{Of}
use Rattle.hart_model.specs.declared.calls.Did.TheVariants.{Ran, Trapped}
use Rattle.hart_model.specs.declared.probe.Probe.{Probe}
use Rattle.hart_model.specs.declared.probe.Why.{Why}
use Rattle.hart_model.specs.declared.probe.Why.TheVariants as whys
use Rattle.hart_model.specs.declared.probe.Side.TheVariants.{Now}
use Rattle.hart_model.specs.Cells.{blank}
use Rattle.hart_model.specs.Csrs.{public, csr_cell, with_csr}
use Rattle.hart_model.specs.Context.{ContextState, fresh_words, admit_of}
use Rattle.hart_model.specs.HartState.{HartState, boot_hart, hart_cell, hart_with_cell, tick_of}
use Rattle.hart_model.specs.Writes.{CellWrite}
use Rattle.hart_model.specs.StepResult.{did_of, hart_after, probes_of}
use Rattle.hart_model.specs.UserStep.{user_step}
use Rattle.hart_model.specs.MachineStep.{machine_step}
use Rattle.hart_model.specs.HartStep.{hart_step, answer_take, answer_give}
use Rattle.hart_model.proofs.SmallTask.{small_body, machine_hart, user_hart}

abbrev entry : ℕ → ℕ → Latch → ℕ → ℕ → Why → Probe
entry hart pc latch was now why = record { hart = hart; pc = pc; latch = latch; was = was; now = now; why = why }

-- a pending timer is taken in user mode alone
user_mode : did_of (hart_step (0x0ff0000f ∷ []) (tick_of (user_hart (0x0ff0000f ∷ [])))) ≡ Trapped 0x80000007
unfolding user_step
user_mode = refl

machine_mode : did_of (hart_step (0x0ff0000f ∷ []) (tick_of machine_hart)) ≡ Ran
unfolding machine_step
machine_mode = refl

-- lw x5,0x700(x0) of a hart at boot, which gets a context in slot 0, as a worked example prints it; then beq x5,x0,8
abbrev context : ContextState
context = admit_of (small_body []) 0 fresh_words

abbrev early_writes : List CellWrite
early_writes = record { at = PortA; cell = blank } ∷ record { at = Res; cell = public 0x700 } ∷ []

abbrev got : HartState
got = (answer_take early_writes 5 0x1328 (Some context) (boot_hart 0 0x1324)).hart

entries_of_take : (answer_take early_writes 5 0x1328 (Some context) (boot_hart 0 0x1324)).probes ≡
    entry 0 0x1324 latches.PortA 0 0 whys.Public
    ∷ entry 0 0x1324 latches.Res 0 0x700 whys.Public
    ∷ entry 0 0x1324 latches.Load 0 0x200 whys.Public
    ∷ entry 0 0x1324 (latches.Reg 5) 0 0x200 whys.Public
    ∷ []
entries_of_take = refl

held_after_take : got.held ≡ Some context
held_after_take = refl

pc_after_take : got.pc ≡ 0x1328
pc_after_take = refl

-- the code has the branch alone, so the hart stands at its place there
entries_of_branch : probes_of (hart_step (0x00028463 ∷ []) (record got { pc = 0x1000 })) ≡
    entry 0 0x1000 latches.PortA 0 0x200 whys.Public ∷ entry 0 0x1000 latches.PortB 0 0 whys.Public ∷ []
unfolding machine_step
entries_of_branch = refl

-- where the queue has nothing
empty_take : hart_cell (answer_take early_writes 5 0x1328 None (record (boot_hart 0 0x1324) { load = public 9 })).hart (Reg 5) ≡ blank
empty_take = refl

-- lw x0,0x700(x0) writes no register
take_into_x0 : (answer_take early_writes 0 0x1328 (Some context) (boot_hart 0 0x1324)).hart.regs ≡ (boot_hart 0 0x1324).regs
take_into_x0 = refl

-- a give leaves a hart that holds nothing
abbrev given : List CellWrite
given = record { at = PortA; cell = blank } ∷ record { at = PortB; cell = blank } ∷ record { at = Res; cell = public 0x704 } ∷ record { at = Store; cell = blank } ∷ []

held_after_give : (answer_give given 0x1324 machine_hart).hart.held ≡ None
held_after_give = refl

pc_after_give : (answer_give given 0x1324 machine_hart).hart.pc ≡ 0x1324
pc_after_give = refl

entries_of_give : (answer_give given 0x1324 machine_hart).probes ≡
    entry 1 0x1000 latches.PortA 0 0 whys.Public
    ∷ entry 1 0x1000 latches.PortB 0 0 whys.Public
    ∷ entry 1 0x1000 latches.Res 0 0x704 whys.Public
    ∷ entry 1 0x1000 latches.Store 0 0 whys.Public
    ∷ []
entries_of_give = refl

-- A save that doesn't clear what a register's store left in the operand port: csrrw x5,mscratch,x5; sw x1,4(x5); sw x2,8(x5) after a
-- task has put 5 into x1 and 9 into x2. The second store leaks both.
abbrev naive : List ℕ
naive = 0x340292f3 ∷ 0x0012a223 ∷ 0x0022a423 ∷ []

abbrev preempted : HartState
preempted =
    hart_with_cell (hart_with_cell (record machine_hart { csrs = record machine_hart.csrs { mscratch = public 0x340 } }) (Reg 1) (record { value = 5; tag = Of 3 1 (latches.Reg 1) })) (Reg 2) (record { value = 9; tag = Of 3 2 (latches.Reg 2) })

abbrev one_more : HartState → HartState
one_more h = hart_after h (hart_step naive h)

leak : probes_of (hart_step naive (one_more (one_more preempted))) ≡
    entry 1 0x1008 latches.PortA 0x340 0x340 whys.Public
    ∷ entry 1 0x1008 latches.PortB 5 9 whys.Unexplained
    ∷ entry 1 0x1008 latches.Res 0x344 0x348 whys.Public
    ∷ entry 1 0x1008 latches.Store 5 9 whys.Unexplained
    ∷ entry 1 0x1008 (latches.Mem 0x348) 0 9 (whys.Value 3 2 (latches.Reg 2) Now)
    ∷ []
unfolding machine_step csr_cell with_csr
leak = refl
