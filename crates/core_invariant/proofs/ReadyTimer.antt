-- A task that the timer interrupts is given back as it is.
use Rattle.std.proofs.Common.{◌≡◌, ℕ, ◌+◌, ◌*◌, List, length, refl}
use Rattle.isa_model.specs.declared.task.Task.{Task}
use Rattle.hart_model.specs.declared.tag.Cell.{Cell}
use Rattle.hart_model.specs.Cells.{blank}
use Rattle.hart_model.specs.Traps.{timer_cause}
use Rattle.hart_model.specs.Context.{ContextState}
use Rattle.hart_model.specs.HartState.{HartState}
use Rattle.core_model.specs.Soundness.{IsBodyCase}
use Rattle.symbolic_run.specs.SymbolicPath.{AreSo}
use Rattle.symbolic_run.specs.Ways.{Leads}
use Rattle.symbolic_run.specs.Laws.{PathsLead}
use Rattle.core_invariant.specs.KernelStates.{KernelParts, IsKernel, middle_len, middle_at, give_ready_index}
use Rattle.core_invariant.specs.CutPoints.{IsAtTrap, IsTimerTrap, IsGivingReady}
use Rattle.core_invariant.proofs.Trapped.{trapped_setting, AreOwn}
use Rattle.core_invariant.proofs.ReadyPaths.{saved_slot, timer_answers, timer_asked, timer-path}
use Rattle.core_invariant.proofs.TrapEnds.{EndsSo, trap-ends}
use Rattle.core_invariant.proofs.PathStates.{context_at}
use Rattle.core_invariant.proofs.ReadyEnd.{giving-saved}

-- the cause is the timer's
timer-so : (cause : ℕ) → cause ≡ timer_cause → AreSo (timer_asked cause)
timer-so cause e = rw e (refl, (refl, (refl, tt)))

-- the body of a trapped task whose count is as before the trap
pub trapped-body : {tasks : List Task} {number cause : ℕ} {h : HartState} {c : ContextState} → IsAtTrap tasks number c.body.count cause h c
    → IsBodyCase tasks c.body
trapped-body trap = record { is_task = trap.is_task; is_running = trap.is_running; output = trap.output; tape_at = trap.tape_at; data_words = trap.data_words }

-- a hart that is about to give some ready context, and one on its way there
abbrev pub GivesSome : List Task → KernelParts → ℕ → HartState → Type 0
GivesSome tasks k number g = (d : ContextState) × IsGivingReady tasks number (middle_at k + 4 * give_ready_index) g d

abbrev pub LeadsToReady : List Task → KernelParts → ℕ → HartState → Type 0
LeadsToReady tasks k number h = (steps : ℕ) × Leads tasks k.code.words number steps (GivesSome tasks k number) h

-- the path of a task that the timer interrupts
pub timer-ends : (k : KernelParts) (tasks : List Task) (number : ℕ) (h : HartState) (c : ContextState) → IsTimerTrap tasks number h c
    → (regs : ℕ → Cell) → AreOwn c.body.count c regs
    → EndsSo (trapped_setting tasks c.body.count regs c blank) number k h.csrs c timer_answers give_ready_index (GivesSome tasks k number)
timer-ends k tasks number h c t regs own =
    let trap = t.trap in
    let s = trapped_setting tasks c.body.count regs c blank in
    record {
      slot = saved_slot s h.csrs.mepc;
      after = c;
      conditions = timer_asked h.csrs.mcause;
      ends = timer-path s (middle_len + k.restore + 1) h.csrs c;
      so = timer-so h.csrs.mcause trap.mcause;
      end_kept = refl;
      there = λ g says. (
        context_at c g,
        giving-saved s number (middle_at k + 4 * give_ready_index) h.csrs.mepc c g says refl (trapped-body trap) trap.no_end trap.mepc own trap.slot
            trap.valid trap.before_fuel,
      );
    }

module _ (k : KernelParts) (kernel : IsKernel k) (paths-lead : PathsLead) where
  -- A task that the timer interrupts is led to where its context is given back.
  pub timer-leads : (tasks : List Task) (number : ℕ) (h : HartState) (c : ContextState) → IsTimerTrap tasks number h c → LeadsToReady tasks k number h
  timer-leads tasks number h c t = (
    k.save + length timer_answers,
    trap-ends k kernel paths-lead tasks number c.body.count timer_cause h c blank t.trap tt timer_answers give_ready_index (GivesSome tasks k number)
        (timer-ends k tasks number h c t),
  )
