-- Where a save part and a restore part begin is somewhere that harts come: a hart that has just trapped, and one that is to restore, of the
-- core of `TryCores`.
use Rattle.std.proofs.Common.{◌≡◌, refl, sym, ap, subst, ◌∙◌, ℕ, zero, suc, ◌<◌, ◌≤◌, Bool, true, List, [], ◌∷◌, All, replicate, get_or, slice_get, Option, Some, None, lit<, lit≤}
use Rattle.std.specs.List.{list_all}
use Rattle.std.proofs.lemmas.Bool.{and_parts}
use Rattle.std.proofs.lemmas.List.Elements.{All-head}
use Rattle.isa_model.specs.TaskPlaces.{IsValidTask}
use Rattle.isa_model.specs.declared.task.Task.{Task}
use Rattle.hart_model.specs.declared.place.Place.{Place}
use Rattle.hart_model.specs.declared.place.Place.TheVariants.{Reg, PortA, PortB, Res, Load, Store, Scr, Mul, Zero, SlotWord, DataWord}
use Rattle.hart_model.specs.declared.tag.Cell.{Cell}
use Rattle.hart_model.specs.declared.tag.Mode.TheVariants.{Machine}
use Rattle.hart_model.specs.declared.tag.Tag.{Tag}
use Rattle.hart_model.specs.declared.tag.Tag.TheVariants.{Public, Of, Many}
use Rattle.hart_model.specs.Cells.{blank}
use Rattle.hart_model.specs.Csrs.{csr_cell, public, with_csr}
use Rattle.hart_model.specs.Pmp.{is_allowed_by}
use Rattle.hart_model.specs.Taint.{is_public}
use Rattle.hart_model.specs.Traps.{timer_cause, csrs_after_trap, interrupt_of}
use Rattle.hart_model.specs.Context.{ContextState, admit_of, fresh_body, fresh_words, slot_address, task_of}
use Rattle.hart_model.specs.HartState.{HartState, boot_hart, hart_cell, tick_of}
use Rattle.hart_model.specs.UserStep.{user_step, is_fuel_used}
use Rattle.hart_model.specs.MachineStep.{machine_step}
use Rattle.core_model.specs.declared.event.Event.{Event}
use Rattle.core_model.specs.declared.event.Event.TheVariants.{Go}
use Rattle.core_model.specs.Board.{all_ready}
use Rattle.core_model.specs.Core.{CoreState, core_after, core_from}
use Rattle.core_model.specs.Soundness.{IsUserCase, IsReadyCase}
use Rattle.core_model.specs.Routines.{IsLatchPlace, IsReadyContext, IsUserState, IsTrapped, IsRestoring}
use Rattle.symbolic_run.proofs.Ways.{sound-tick, user-tick}
use Rattle.core_invariant.specs.KernelStates.{emitted_parts, restore_at}
use Rattle.core_invariant.proofs.Proved.{kernel-harts, emitted-is-kernel}
use Rattle.core_invariant.proofs.FromHarts.{stays-sound}
use Rattle.core_invariant.proofs.UserTraps.{interrupt-step}
use Rattle.core_invariant.proofs.TryCores.{two_tasks, two_tasks_load, task_at, valid_at, one_instr, hart_in_task, is_in_task, is_in_user_case}

-- the context of a task at its place, in slot 0, as it is at boot and after an instruction
abbrev at_boot : ContextState
at_boot = admit_of (fresh_body 0 (task_at 0)) 0 fresh_words

abbrev held_or : Option ContextState → ContextState
held_or None = at_boot
held_or (Some c) = c

abbrev held_in_task : ContextState
held_in_task = held_or hart_in_task.held

-- the hart in user mode, with the timer pending, and after the interrupt
abbrev ticked : HartState
ticked = tick_of hart_in_task

abbrev trapped : HartState
trapped = record ticked { csrs = csrs_after_trap ticked.csrs timer_cause ticked.pc; pc = ticked.csrs.mtvec }

record IsInterrupted : Type 0 where
  held : hart_in_task.held ≡ Some held_in_task
  task : task_of held_in_task.body ≡ task_at 0
  slot : held_in_task.slot ≡ 0
  count : held_in_task.body.count ≡ 1
  cause : interrupt_of ticked.csrs (is_fuel_used ticked.held) ≡ Some timer_cause

is_interrupted : IsInterrupted
unfolding core_from user_step machine_step is_allowed_by csr_cell with_csr
is_interrupted = record { held = refl; task = refl; slot = refl; count = refl; cause = refl }

held-is : (c : ContextState) → hart_in_task.held ≡ Some c → c ≡ held_in_task
held-is c e = let f : Some c ≡ Some held_in_task = sym e ∙ is_interrupted.held in ap held_or f

is_user_state : IsUserState two_tasks.tasks 0 ticked held_in_task
is_user_state =
    let sound = (stays-sound kernel-harts emitted_parts emitted-is-kernel two_tasks two_tasks_load one_instr).harts 0 hart_in_task is_in_task.0 in
    let user = is_in_user_case in
    let P : ContextState → Type 0 = λ c. IsUserCase two_tasks.tasks ticked c in
    let Low : ℕ → Type 0 = λ slot. slot < 8 in
    let Within : ℕ → Type 0 = λ n. n ≤ 5 in
    record {
      sound = sound-tick two_tasks.tasks 0 hart_in_task sound;
      user = subst P (held-is user.0 user.1.held) (user-tick two_tasks.tasks hart_in_task user.0 user.1);
      slot = subst Low (sym is_interrupted.slot) (lit< tt);
      valid = subst IsValidTask (sym is_interrupted.task) (valid_at 0 (lit< tt));
      within = subst (λ (T : Task). held_in_task.body.count ≤ T.fuel) (sym is_interrupted.task) (subst Within (sym is_interrupted.count) (lit≤ tt));
    }

-- It has just trapped, one instruction of its task executed.
is_trapped : IsTrapped two_tasks.tasks 0 1 trapped held_in_task
is_trapped = record {
  user = ticked;
  context = held_in_task;
  state = is_user_state;
  count = is_interrupted.count;
  probes = [];
  cause = timer_cause;
  step = interrupt-step two_tasks.tasks 0 ticked held_in_task is_user_state timer_cause is_interrupted.cause;
  held = is_interrupted.held;
}

-- after a take and the twelve instructions that follow it hart 0 is at the restore part
abbrev to_restore : List Event
to_restore = replicate 13 (Go 0)

abbrev before_restore : CoreState
before_restore = core_after two_tasks emitted_parts.code to_restore

abbrev hart_to_restore : HartState
hart_to_restore = get_or before_restore.harts 0 (boot_hart 0 0)

abbrev cell_is_public : Cell → Bool
cell_is_public c = is_public c.tag

record IsBeforeRestore : Type 0 where
  hart : slice_get before_restore.harts 0 ≡ Some hart_to_restore
  mode : hart_to_restore.csrs.mode ≡ Machine
  pc : hart_to_restore.pc ≡ restore_at emitted_parts
  held : hart_to_restore.held ≡ Some at_boot
  x5 : hart_cell hart_to_restore (Reg 5) ≡ public (slot_address 0)
  scratch : hart_to_restore.csrs.mscratch ≡ public (slot_address 0)
  regs : list_all cell_is_public hart_to_restore.regs ≡ true
  port_a : hart_to_restore.port_a.tag ≡ Public
  port_b : hart_to_restore.port_b.tag ≡ Public
  res : hart_to_restore.res.tag ≡ Public
  load : hart_to_restore.load.tag ≡ Public
  store : hart_to_restore.store.tag ≡ Public
  mul : hart_to_restore.mul.tag ≡ Public
  zero : hart_to_restore.zero_word.tag ≡ Public

is_before_restore : IsBeforeRestore
unfolding core_from user_step machine_step is_allowed_by csr_cell with_csr
is_before_restore = record {
  hart = refl;
  mode = refl;
  pc = refl;
  held = refl;
  x5 = refl;
  scratch = refl;
  regs = refl;
  port_a = refl;
  port_b = refl;
  res = refl;
  load = refl;
  store = refl;
  mul = refl;
  zero = refl;
}

-- a public tag, and public cells in a row
tag-is : (t : Tag) → is_public t ≡ true → t ≡ Public
tag-is Public e = refl
tag-is (Of task step latch) e = absurd (cc e)
tag-is Many e = absurd (cc e)

cell-is : (cs : List Cell) (i : ℕ) → list_all cell_is_public cs ≡ true → (get_or cs i blank).tag ≡ Public
cell-is [] i e = refl
cell-is (c ∷ cs) zero e = tag-is c.tag ((and_parts (cell_is_public c) (list_all cell_is_public cs) e).0)
cell-is (c ∷ cs) (suc i) e = cell-is cs i ((and_parts (cell_is_public c) (list_all cell_is_public cs) e).1)

latch-is : (p : Place) → IsLatchPlace p → (hart_cell hart_to_restore p).tag ≡ Public
latch-is (Reg zero) is = refl
latch-is (Reg (suc i)) is = cell-is hart_to_restore.regs (suc i) is_before_restore.regs
latch-is PortA is = is_before_restore.port_a
latch-is PortB is = is_before_restore.port_b
latch-is Res is = is_before_restore.res
latch-is Load is = is_before_restore.load
latch-is Store is = is_before_restore.store
latch-is Scr is = ap (λ (c : Cell). c.tag) is_before_restore.scratch
latch-is Mul is = is_before_restore.mul
latch-is Zero is = is_before_restore.zero
latch-is (SlotWord i) is = absurd is
latch-is (DataWord i) is = absurd is

-- the context is ready at boot
ready_at_boot : all_ready (core_after two_tasks emitted_parts.code []).board.ready ≡ at_boot ∷ []
unfolding core_from user_step machine_step is_allowed_by csr_cell with_csr
ready_at_boot = refl

is_ready : IsReadyContext two_tasks.tasks at_boot
is_ready =
    let sound = stays-sound kernel-harts emitted_parts emitted-is-kernel two_tasks two_tasks_load [] in
    record {
      ready = All-head (IsReadyCase two_tasks.tasks) at_boot [] (subst (All (IsReadyCase two_tasks.tasks)) ready_at_boot sound.board.ready);
      slot = lit< tt;
      valid = valid_at 0 (lit< tt);
      within = lit≤ tt;
    }

-- It is to restore it.
is_restoring : IsRestoring two_tasks.tasks 0 (restore_at emitted_parts) hart_to_restore at_boot
is_restoring = record {
  mode = is_before_restore.mode;
  sound = (stays-sound kernel-harts emitted_parts emitted-is-kernel two_tasks two_tasks_load to_restore).harts 0 hart_to_restore is_before_restore.hart;
  pc = is_before_restore.pc;
  held = is_before_restore.held;
  context = is_ready;
  x5 = is_before_restore.x5;
  scratch = is_before_restore.scratch;
  latches = latch-is;
}
