-- A task that outputs a word while there is room is given back with its pc after the call.
use Rattle.std.proofs.Common.{◌≡◌, ℕ, ◌+◌, ◌*◌, true, List, [], ◌∷◌, ◌++◌, length, nat_lt, refl, ap, ◌∙◌, lit<, lit≤, ltb-true}
use Rattle.isa_model.specs.declared.task.Task.{Task}
use Rattle.isa_model.specs.declared.latch.Latch.TheVariants as latches
use Rattle.isa_model.specs.Bits.{low_word}
use Rattle.isa_model.specs.Alone.{alone_at}
use Rattle.isa_model.specs.AloneValue.{alone_value}
use Rattle.hart_model.specs.declared.tag.Cell.{Cell}
use Rattle.hart_model.specs.Cells.{blank}
use Rattle.hart_model.specs.Context.{ContextState, task_of}
use Rattle.hart_model.specs.Ports.{Outputs}
use Rattle.hart_model.specs.HartState.{HartState}
use Rattle.hart_model.specs.MachineStep.{held_after_side}
use Rattle.symbolic_run.specs.SymbolicPath.{AreSo}
use Rattle.symbolic_run.specs.Laws.{PathsLead}
use Rattle.core_invariant.specs.KernelStates.{KernelParts, IsKernel, middle_len, middle_at, give_ready_index}
use Rattle.core_invariant.specs.CutPoints.{IsCallTrap}
use Rattle.core_invariant.proofs.Trapped.{trapped_setting, AreOwn, own-reg-value}
use Rattle.core_invariant.proofs.AloneServices.{with_output, call-outputs}
use Rattle.core_invariant.proofs.ReadyPaths.{saved_slot, out_answers, out_asked, out-path}
use Rattle.core_invariant.proofs.ReadyCalls.{left-over, own-after, pc-after, body-after, within-after}
use Rattle.core_invariant.proofs.TrapEnds.{EndsSo, trap-ends}
use Rattle.core_invariant.proofs.PathStates.{context_at}
use Rattle.core_invariant.proofs.ReadyEnd.{giving-saved}
use Rattle.core_invariant.proofs.ReadyTimer.{GivesSome, LeadsToReady}

-- the cause is a call's, a7 is 1, and there is room
out-so : (cause a7 : ℕ) (held : ContextState) → cause ≡ 8 → a7 ≡ 1 → nat_lt (length held.body.output) held.body.out_max ≡ true
    → AreSo (out_asked cause a7 held)
out-so cause a7 held e f room =
    let left = left-over (length held.body.output) held.body.out_max (ltb-true (length held.body.output) held.body.out_max room) in
    rw (e, f) (refl, (refl, (refl, (left, (room, tt)))))

-- the path of a task that outputs a word, for which there is room
pub out-ends : (k : KernelParts) (tasks : List Task) (number n : ℕ) (h : HartState) (c : ContextState) → IsCallTrap tasks number n h c
    → alone_value (task_of c.body) n (latches.Reg 17) ≡ 1 → nat_lt (length (alone_at (task_of c.body) n).output) c.body.out_max ≡ true
    → (regs : ℕ → Cell) → AreOwn n c regs
    → EndsSo (trapped_setting tasks n regs c blank) number k h.csrs c out_answers give_ready_index (GivesSome tasks k number)
out-ends k tasks number n h c call is_out room regs own =
    let T = task_of c.body in
    let trap = call.trap in
    let pc = low_word (h.csrs.mepc + 4) in
    let a0 = alone_value T n (latches.Reg 10) in
    let state = with_output a0 (alone_at T n) in
    let is_state = call-outputs T (alone_value T n (latches.Reg 17)) a0 (alone_at T n) is_out room in
    let has_room : nat_lt (length c.body.output) c.body.out_max ≡ true = ap (λ o. nat_lt (length o) c.body.out_max) trap.output ∙ room in
    let s = trapped_setting tasks n regs c blank in
    let word = (regs 10).value in
    let after : ContextState = held_after_side (Outputs word) c in
    let is_output : c.body.output ++ word ∷ [] ≡ state.output =
    ap (λ o. o ++ word ∷ []) trap.output ∙ ap (λ v. (alone_at T n).output ++ v ∷ []) (own-reg-value n c regs own 10 (lit≤ tt) (lit< tt)) in
    record {
      slot = saved_slot s pc;
      after = after;
      conditions = out_asked h.csrs.mcause (regs 17).value c;
      ends = out-path s (middle_len + k.restore + 1) h.csrs c;
      so = out-so h.csrs.mcause (regs 17).value c trap.mcause (own-reg-value n c regs own 17 (lit≤ tt) (lit< tt) ∙ is_out) has_room;
      end_kept = refl;
      there = λ g says. (
        context_at after g,
        giving-saved s number (middle_at k + 4 * give_ready_index) pc after g says refl
            (body-after call state is_state call.went_on (c.body.output ++ word ∷ []) c.body.tape_at is_output trap.tape_at (λ at. refl)) trap.no_end
            (pc-after call state is_state call.went_on refl)
            (λ i low high. own-after call state is_state call.went_on (latches.Reg i) (regs i) refl (own i low high))
            trap.slot trap.valid (within-after call state is_state call.went_on),
      );
    }

module _ (k : KernelParts) (kernel : IsKernel k) (paths-lead : PathsLead) where
  -- A task that outputs a word, for which there is room, is led to where its context is given back.
  pub out-leads : (tasks : List Task) (number n : ℕ) (h : HartState) (c : ContextState) → IsCallTrap tasks number n h c
      → alone_value (task_of c.body) n (latches.Reg 17) ≡ 1 → nat_lt (length (alone_at (task_of c.body) n).output) c.body.out_max ≡ true
      → LeadsToReady tasks k number h
  out-leads tasks number n h c call is_out room = (
    k.save + length out_answers,
    trap-ends k kernel paths-lead tasks number n 8 h c blank call.trap tt out_answers give_ready_index (GivesSome tasks k number)
        (out-ends k tasks number n h c call is_out room),
  )
