-- A task that yields is given back with its pc after the call.
use Rattle.std.proofs.Common.{◌≡◌, ℕ, ◌+◌, ◌*◌, List, length, refl, ◌∙◌, lit<, lit≤}
use Rattle.isa_model.specs.declared.task.Task.{Task}
use Rattle.isa_model.specs.declared.latch.Latch.TheVariants as latches
use Rattle.isa_model.specs.Bits.{low_word}
use Rattle.isa_model.specs.Alone.{alone_at}
use Rattle.isa_model.specs.AloneValue.{alone_value}
use Rattle.hart_model.specs.declared.tag.Cell.{Cell}
use Rattle.hart_model.specs.Cells.{blank}
use Rattle.hart_model.specs.Context.{ContextState, task_of}
use Rattle.hart_model.specs.HartState.{HartState}
use Rattle.symbolic_run.specs.SymbolicPath.{AreSo}
use Rattle.symbolic_run.specs.Laws.{PathsLead}
use Rattle.core_invariant.specs.KernelStates.{KernelParts, IsKernel, middle_len, middle_at, give_ready_index}
use Rattle.core_invariant.specs.CutPoints.{IsCallTrap}
use Rattle.core_invariant.proofs.Trapped.{trapped_setting, AreOwn, own-reg-value}
use Rattle.core_invariant.proofs.AloneServices.{yielded, call-yields}
use Rattle.core_invariant.proofs.ReadyPaths.{saved_slot, yield_answers, yield_asked, yield-path}
use Rattle.core_invariant.proofs.ReadyCalls.{own-after, pc-after, body-after, within-after}
use Rattle.core_invariant.proofs.TrapEnds.{EndsSo, trap-ends}
use Rattle.core_invariant.proofs.PathStates.{context_at}
use Rattle.core_invariant.proofs.ReadyEnd.{giving-saved}
use Rattle.core_invariant.proofs.ReadyTimer.{GivesSome, LeadsToReady}

-- the cause is a call's, and a7 is 3
yield-so : (cause a7 : ℕ) → cause ≡ 8 → a7 ≡ 3 → AreSo (yield_asked cause a7)
yield-so cause a7 e f = rw (e, f) (refl, (refl, (refl, (refl, (refl, tt)))))

-- the path of a task that yields
pub yield-ends : (k : KernelParts) (tasks : List Task) (number n : ℕ) (h : HartState) (c : ContextState) → IsCallTrap tasks number n h c
    → alone_value (task_of c.body) n (latches.Reg 17) ≡ 3 → (regs : ℕ → Cell) → AreOwn n c regs
    → EndsSo (trapped_setting tasks n regs c blank) number k h.csrs c yield_answers give_ready_index (GivesSome tasks k number)
yield-ends k tasks number n h c call is_yield regs own =
    let T = task_of c.body in
    let trap = call.trap in
    let pc = low_word (h.csrs.mepc + 4) in
    let state = yielded (alone_at T n) in
    let is_state = call-yields T (alone_value T n (latches.Reg 17)) (alone_value T n (latches.Reg 10)) (alone_at T n) is_yield in
    let s = trapped_setting tasks n regs c blank in
    record {
      slot = saved_slot s pc;
      after = c;
      conditions = yield_asked h.csrs.mcause (regs 17).value;
      ends = yield-path s (middle_len + k.restore + 1) h.csrs c;
      so = yield-so h.csrs.mcause (regs 17).value trap.mcause (own-reg-value n c regs own 17 (lit≤ tt) (lit< tt) ∙ is_yield);
      end_kept = refl;
      there = λ g says. (
        context_at c g,
        giving-saved s number (middle_at k + 4 * give_ready_index) pc c g says refl
            (body-after call state is_state call.went_on c.body.output c.body.tape_at trap.output trap.tape_at (λ at. refl)) trap.no_end
            (pc-after call state is_state call.went_on refl)
            (λ i low high. own-after call state is_state call.went_on (latches.Reg i) (regs i) refl (own i low high))
            trap.slot trap.valid (within-after call state is_state call.went_on),
      );
    }

module _ (k : KernelParts) (kernel : IsKernel k) (paths-lead : PathsLead) where
  -- A task that yields is led to where its context is given back.
  pub yield-leads : (tasks : List Task) (number n : ℕ) (h : HartState) (c : ContextState) → IsCallTrap tasks number n h c
      → alone_value (task_of c.body) n (latches.Reg 17) ≡ 3 → LeadsToReady tasks k number h
  yield-leads tasks number n h c call is_yield = (
    k.save + length yield_answers,
    trap-ends k kernel paths-lead tasks number n 8 h c blank call.trap tt yield_answers give_ready_index (GivesSome tasks k number)
        (yield-ends k tasks number n h c call is_yield),
  )
