-- A trap from user mode leaves the task's own registers and words, and CSRs as the kernel has them.
use Rattle.std.proofs.Common.{◌≡◌, ℕ, zero, suc, ◌+◌, ◌*◌, ◌^◌, ◌≢◌, Bool, true, false, List, [], length, Option, Some, refl, ap, sym, ◌∙◌, subst, arith}
use Rattle.isa_model.specs.Arithmetic.{bit_of}
use Rattle.isa_model.specs.declared.task.Task.{Task}
use Rattle.isa_model.specs.declared.latch.Latch.TheVariants as latches
use Rattle.hart_model.specs.declared.calls.Did.TheVariants.{Trapped}
use Rattle.hart_model.specs.declared.place.Place.{Place}
use Rattle.hart_model.specs.declared.probe.Probe.{Probe}
use Rattle.hart_model.specs.declared.place.Place.TheVariants as places
use Rattle.hart_model.specs.declared.tag.Cell.{Cell}
use Rattle.hart_model.specs.declared.tag.Mode.{Mode}
use Rattle.hart_model.specs.declared.tag.Mode.TheVariants.{User, Machine}
use Rattle.hart_model.specs.Csrs.{CsrFile, mode_bits}
use Rattle.hart_model.specs.Traps.{csrs_after_trap, interrupt_of}
use Rattle.hart_model.specs.Context.{ContextState, task_of}
use Rattle.hart_model.specs.HartState.{HartState, hart_cell}
use Rattle.hart_model.specs.StepResult.{Steps}
use Rattle.hart_model.specs.HartStep.{hart_step, step_by_mode}
use Rattle.hart_model.specs.UserStep.{user_step, by_interrupt, is_fuel_used}
use Rattle.core_model.specs.Soundness.{AreCsrsSound, IsTruthful, IsOwn, mstatus_in}
use Rattle.core_model.specs.Routines.{IsUserState}
use Rattle.core_invariant.specs.CutPoints.{IsAtTrap}
use Rattle.core_invariant.proofs.UserTruth.{reg-cell}

is_no_status : (value : ℕ) → value ≢ 0x80 → value ≡ 0x80 → ⊥
is_no_status value not same = not same

-- mstatus after a trap from user mode
trap_status : (enabled was : Bool) (previous mode : Mode) → 2 ^ 3 * bit_of enabled + 2 ^ 7 * bit_of was + 2 ^ 11 * mode_bits previous ≡ 0x80
    → mode ≡ User → 2 ^ 3 * bit_of false + 2 ^ 7 * bit_of enabled + 2 ^ 11 * mode_bits mode ≡ 0
trap_status false was previous mode status user = rw user refl
trap_status true true User mode status user = absurd (is_no_status 136 (omega arith) status)
trap_status true true Machine mode status user = absurd (is_no_status 6280 (omega arith) status)
trap_status true false User mode status user = absurd (is_no_status 8 (omega arith) status)
trap_status true false Machine mode status user = absurd (is_no_status 6152 (omega arith) status)

csrs_sound : (number : ℕ) (csrs : CsrFile) (cause pc : ℕ) → csrs.mode ≡ User → AreCsrsSound number csrs
    → AreCsrsSound number (csrs_after_trap csrs cause pc)
csrs_sound number csrs cause pc user sound = record {
  hart = sound.hart;
  timer = sound.timer;
  fuel = sound.fuel;
  mtvec = sound.mtvec;
  pmpcfg = sound.pmpcfg;
  mstatus = trap_status csrs.is_enabled csrs.was_enabled csrs.previous csrs.mode (sound.mstatus ∙ ap (λ (m : Mode). mstatus_in m) user) user;
}

-- a context with another count
abbrev pub counted : ContextState → ℕ → ContextState
counted c count = record c { body = record c.body { count = count } }

-- a trap has one cause
pub same-cause : (tasks : List Task) (number n : ℕ) (g : HartState) (c : ContextState) (cause other : ℕ) → Trapped cause ≡ Trapped other
    → IsAtTrap tasks number n cause g c → IsAtTrap tasks number n other g c
same-cause tasks number n g c cause other e trap =
    let same : cause ≡ other = cc e in
    subst (λ (x : ℕ). IsAtTrap tasks number n x g c) same trap

module _ (tasks : List Task) (number : ℕ) (h : HartState) (c : ContextState) (is : IsUserState tasks number h c) where
  -- A hart that trapped, whose cells say the truth, stands at the trap.
  pub at-trap : (g : HartState) (count cause : ℕ) (probes : List Probe) → user_step h ≡ Steps g probes (Trapped cause)
      → g.pc ≡ h.csrs.mtvec → g.csrs ≡ csrs_after_trap h.csrs cause h.pc → g.regs ≡ h.regs
      → g.zero_word ≡ h.zero_word → g.held ≡ Some (counted c count) → ((p : Place) → IsTruthful tasks (hart_cell g p))
      → IsAtTrap tasks number c.body.count cause g (counted c count)
  at-trap g count cause probes step pc csrs regs zero_word held truthful = record {
    trapped = record { user = h; context = c; state = is; count = refl; probes = probes; cause = cause; step = step; held = held };
    mode = ap (λ (x : CsrFile). x.mode) csrs;
    csrs = subst (λ (x : CsrFile). AreCsrsSound number x) (sym csrs) (csrs_sound number h.csrs cause h.pc is.user.mode is.sound.csrs);
    pc = pc ∙ is.sound.csrs.mtvec;
    mepc = ap (λ (x : CsrFile). x.mepc) csrs ∙ is.user.pc;
    mcause = ap (λ (x : CsrFile). x.mcause) csrs;
    held = held;
    is_task = is.user.body.is_task;
    valid = is.valid;
    slot = is.slot;
    no_end = is.user.no_end;
    before_fuel = is.within;
    is_running = is.user.body.is_running;
    output = is.user.body.output;
    tape_at = is.user.body.tape_at;
    registers_len = ap (λ (cells : List Cell). length cells) regs ∙ is.sound.registers;
    registers = λ i low high.
        subst (λ (x : Cell). IsOwn c.body.task_no (task_of c.body) c.body.count (latches.Reg i) x) (sym (reg-cell g h i regs)) (is.user.registers i high);
    truthful = truthful;
    zero_word = zero_word ∙ is.sound.zero;
    scratch = ap (λ (x : CsrFile). x.mscratch) csrs ∙ is.user.scratch;
    bound_registers = ap (λ (x : CsrFile). length x.pmp.addrs) csrs ∙ ap (λ (addrs : List ℕ). length addrs) is.user.bound_registers;
    words = is.user.words;
    saved_pc = is.user.saved_pc;
    bounds = is.user.bounds;
    data_words = is.user.body.data_words;
  }

  -- the step is one of user mode
  pub user-mode-step : (code : List ℕ) → hart_step code h ≡ user_step h
  user-mode-step code = ap (λ (m : Mode). step_by_mode code h m) is.user.mode

  abbrev pub interrupted : ℕ → HartState
  interrupted cause = record h { csrs = csrs_after_trap h.csrs cause h.pc; pc = h.csrs.mtvec }

  -- An interrupt is a trap that makes no entry.
  pub interrupt-step : (cause : ℕ) → interrupt_of h.csrs (is_fuel_used h.held) ≡ Some cause
      → user_step h ≡ Steps (interrupted cause) [] (Trapped cause)
  unfolding user_step
  interrupt-step cause some = ap (λ (o : Option ℕ). by_interrupt h o) some

  interrupted_truthful : (cause : ℕ) (p : Place) → IsTruthful tasks (hart_cell (interrupted cause) p)
  interrupted_truthful cause (places.Reg zero) = tt
  interrupted_truthful cause (places.Reg (suc r)) = is.sound.truthful (places.Reg (suc r))
  interrupted_truthful cause places.PortA = is.sound.truthful places.PortA
  interrupted_truthful cause places.PortB = is.sound.truthful places.PortB
  interrupted_truthful cause places.Res = is.sound.truthful places.Res
  interrupted_truthful cause places.Load = is.sound.truthful places.Load
  interrupted_truthful cause places.Store = is.sound.truthful places.Store
  interrupted_truthful cause places.Scr = is.sound.truthful places.Scr
  interrupted_truthful cause places.Mul = is.sound.truthful places.Mul
  interrupted_truthful cause places.Zero = is.sound.truthful places.Zero
  interrupted_truthful cause (places.SlotWord i) = is.sound.truthful (places.SlotWord i)
  interrupted_truthful cause (places.DataWord i) = is.sound.truthful (places.DataWord i)

  pub at-interrupt : (cause : ℕ) → interrupt_of h.csrs (is_fuel_used h.held) ≡ Some cause → IsAtTrap tasks number c.body.count cause (interrupted cause) c
  at-interrupt cause some =
      at-trap (interrupted cause) c.body.count cause [] (interrupt-step cause some) refl refl refl refl is.user.held (interrupted_truthful cause)
