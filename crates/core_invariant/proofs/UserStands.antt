-- A hart in user mode stands where the run alone of its task does, and which interrupt comes.
use Rattle.std.proofs.Common.{◌≡◌, ℕ, zero, suc, ◌+◌, ◌*◌, ◌<◌, Bool, true, false, ◌&&◌, ◌==◌, List, length, get_or, Option, Some, None, if◌then◌else◌, refl, ap, sym, ◌∙◌, subst, arith}
use Rattle.isa_model.specs.declared.task.Task.{Task}
use Rattle.isa_model.specs.declared.latch.Latch.{Latch}
use Rattle.isa_model.specs.declared.latch.Latch.TheVariants as latches
use Rattle.isa_model.specs.Alone.{alone_at}
use Rattle.isa_model.specs.AloneValue.{alone_value}
use Rattle.isa_model.proofs.RunLaws.{always_aligned, always_zero}
use Rattle.hart_model.specs.declared.place.Place.TheVariants as places
use Rattle.hart_model.specs.declared.tag.Mode.{Mode}
use Rattle.hart_model.specs.declared.tag.Mode.TheVariants.{User}
use Rattle.hart_model.specs.Cells.{blank}
use Rattle.hart_model.specs.Pmp.{PmpFile, boot_pmpcfg, bounds_of, task_pmp}
use Rattle.hart_model.specs.Traps.{takes_interrupts, fuel_cause, timer_cause, interrupt_of}
use Rattle.hart_model.specs.Context.{ContextState, data_word, task_of}
use Rattle.hart_model.specs.HartState.{HartState, hart_cell, held_data}
use Rattle.hart_model.specs.UserStep.{latch_value, is_fuel_used}
use Rattle.hart_model.specs.UserLaws.{IsTaskLatch, IsRunLatch, IsAtRunAlone}
use Rattle.hart_model.proofs.UserWrites.{IsDataAt, data_at, data_index, value_of_register, value_of_word}
use Rattle.hart_model.proofs.UserWritesOwn.{run_place}
use Rattle.core_model.specs.Soundness.{IsOwn, IsOwnOrPublic}
use Rattle.core_model.specs.Routines.{IsUserState}
use Rattle.core_invariant.proofs.OwnCells.{own-value, own-is-public}

pmp_is : (pmp : PmpFile) (T : Task) → pmp.cfg ≡ boot_pmpcfg → pmp.addrs ≡ bounds_of T → pmp ≡ task_pmp T
pmp_is pmp T cfg addrs = ap (λ (n : ℕ). record { cfg = n; addrs = pmp.addrs }) cfg ∙ ap (λ (l : List ℕ). record { cfg = boot_pmpcfg; addrs = l }) addrs

module _ (tasks : List Task) (number : ℕ) (h : HartState) (c : ContextState) (is : IsUserState tasks number h c) where
  abbrev T : Task
  T = task_of c.body

  abbrev n : ℕ
  n = c.body.count

  -- the data word of an address is the task's own
  own_word : (at : ℕ) → IsTaskLatch T (latches.Mem at) → IsOwn c.body.task_no T n (latches.Mem at) (data_word c.body (data_index T at))
  own_word at inside =
      let d : IsDataAt T at = data_at T at inside in
      let even = is.valid.data_aligned in
      let same : c.body.data_at + 4 * data_index T at ≡ at = omega (arith, d.low, d.even, even) in
      let low : data_index T at < length c.body.data_words = omega (arith, d.low, d.high) in
      subst (λ (a : ℕ). IsOwn c.body.task_no T n (latches.Mem a) (data_word c.body (data_index T at))) same (is.user.body.data_words (data_index T at) low)

  reg_alone : (r : ℕ) → r < 32 → latch_value h (latches.Reg r) ≡ alone_value T n (latches.Reg r)
  reg_alone zero low = value_of_register h 0 ∙ sym (always_zero T n)
  reg_alone (suc r) low =
      value_of_register h (suc r) ∙ own-value T c.body.task_no n (latches.Reg (suc r)) (hart_cell h (places.Reg (suc r))) (is.user.registers (suc r) low)

  -- the values of registers and data words
  pub values-alone : (l : Latch) → IsTaskLatch T l → latch_value h l ≡ alone_value T n l
  values-alone (latches.Reg r) inside = reg_alone r inside
  values-alone (latches.Mem at) inside =
      value_of_word h c at is.user.held is.valid is.slot inside
      ∙ own-value T c.body.task_no n (latches.Mem at) (data_word c.body (data_index T at)) (own_word at inside)
  values-alone latches.PortA inside = absurd inside
  values-alone latches.PortB inside = absurd inside
  values-alone latches.Res inside = absurd inside
  values-alone latches.Load inside = absurd inside
  values-alone latches.Store inside = absurd inside
  values-alone latches.Scr inside = absurd inside
  values-alone latches.Mul inside = absurd inside

  -- A hart in user mode stands where the run alone of its task does.
  pub at-run-alone : IsAtRunAlone T (alone_at T n) h c
  at-run-alone = record {
    held = is.user.held;
    task = refl;
    slot = is.slot;
    registers = is.sound.registers;
    mode = is.user.mode;
    pmp = pmp_is h.csrs.pmp T is.sound.csrs.pmpcfg is.user.bound_registers;
    pc = is.user.pc;
    pc_aligned = always_aligned T n is.valid.code_aligned;
    values = values-alone;
    output = is.user.body.output;
    tape_at = is.user.body.tape_at;
  }

  -- Each latch that an instruction writes has a cell of the task's own or a public one.
  pub latch-own : (l : Latch) → IsRunLatch T l → IsOwnOrPublic c.body.task_no T n l (hart_cell h (run_place T l))
  latch-own (latches.Reg r) run = own-is-public T c.body.task_no n (latches.Reg r) _ (is.user.registers r run)
  latch-own latches.PortA run = is.user.port_a
  latch-own latches.PortB run = is.user.port_b
  latch-own latches.Res run = is.user.res
  latch-own latches.Load run = is.user.load
  latch-own latches.Store run = is.user.store
  latch-own latches.Scr run = absurd run
  latch-own latches.Mul run = is.user.mul
  latch-own (latches.Mem at) run =
      subst (λ (o : Option ContextState). IsOwnOrPublic c.body.task_no T n (latches.Mem at) (get_or (held_data o) (data_index T at) blank)) (sym is.user.held)
      (own-is-public T c.body.task_no n (latches.Mem at) _ (own_word at run))

-- The interrupt that comes: that of used fuel, else that of the timer where it is pending.
interrupt_by : (mode : Mode) (enabled used fuel_on pending timer_on : Bool) → mode ≡ User → fuel_on ≡ true → timer_on ≡ true
    → (if takes_interrupts mode enabled then (if used && fuel_on then Some fuel_cause else if pending && timer_on then Some timer_cause else None) else None)
    ≡ (if used then Some fuel_cause else if pending then Some timer_cause else None)
interrupt_by mode enabled true fuel_on true timer_on user fuel timer = rw (user, fuel) refl
interrupt_by mode enabled true fuel_on false timer_on user fuel timer = rw (user, fuel) refl
interrupt_by mode enabled false fuel_on true timer_on user fuel timer = rw (user, timer) refl
interrupt_by mode enabled false fuel_on false timer_on user fuel timer = rw user refl

-- the interrupt of a hart in user mode
abbrev pub user_interrupt : Bool → Bool → Option ℕ
user_interrupt used pending = if used then Some fuel_cause else if pending then Some timer_cause else None

pub interrupt-is : (tasks : List Task) (number : ℕ) (h : HartState) (c : ContextState) → IsUserState tasks number h c
    → interrupt_of h.csrs (is_fuel_used h.held) ≡ user_interrupt (c.body.count == c.body.fuel) h.csrs.is_timer_pending
interrupt-is tasks number h c is =
    ap (λ (o : Option ContextState). interrupt_of h.csrs (is_fuel_used o)) is.user.held
    ∙ interrupt_by h.csrs.mode h.csrs.is_enabled (c.body.count == c.body.fuel) h.csrs.is_fuel_enabled h.csrs.is_timer_pending h.csrs.is_timer_enabled
    is.user.mode is.sound.csrs.fuel is.sound.csrs.timer
