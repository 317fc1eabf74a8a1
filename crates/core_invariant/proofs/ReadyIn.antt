-- A task that asks for a word of its tape, which has one, is given back with the word in a0 and with its pc after the call.
use Rattle.std.proofs.Common.{◌≡◌, ℕ, ◌+◌, ◌*◌, ◌≤◌, ◌<◌, inr, List, length, Some, slice_get, get_or, refl, sym, ap, subst, ◌∙◌, lit<, lit≤, le_refl, arith, ne_eqb}
use Rattle.std.proofs.lemmas.Option.{slice_get_within}
use Rattle.isa_model.specs.declared.task.Task.{Task}
use Rattle.isa_model.specs.declared.latch.Latch.TheVariants as latches
use Rattle.isa_model.specs.Bits.{low_word}
use Rattle.isa_model.specs.Alone.{alone_at}
use Rattle.isa_model.specs.AloneValue.{alone_value}
use Rattle.hart_model.specs.declared.tag.Cell.{Cell}
use Rattle.hart_model.specs.declared.tag.Tag.TheVariants.{Of}
use Rattle.hart_model.specs.Context.{ContextState, slot_word, task_of}
use Rattle.hart_model.specs.Ports.{AdvancesTape}
use Rattle.hart_model.specs.HartState.{HartState}
use Rattle.hart_model.specs.MachineStep.{held_after_side}
use Rattle.core_model.specs.Soundness.{IsTruthful, IsOwn}
use Rattle.symbolic_run.specs.AbstractCell.{AnyTagged}
use Rattle.symbolic_run.specs.SymbolicPath.{AreSo}
use Rattle.symbolic_run.specs.Laws.{PathsLead}
use Rattle.core_invariant.specs.KernelStates.{KernelParts, IsKernel, middle_len, middle_at, give_ready_index}
use Rattle.core_invariant.specs.CutPoints.{IsCallTrap}
use Rattle.core_invariant.proofs.Trapped.{trapped_setting, AreOwn, own-reg-value}
use Rattle.core_invariant.proofs.AloneServices.{with_input, call-inputs, input-other}
use Rattle.core_invariant.proofs.ReadyPaths.{given_slot, in_answers, in_asked, in-path}
use Rattle.core_invariant.proofs.ReadyCalls.{called, left-over, service-goes-on, own-after, pc-after, body-after, within-after}
use Rattle.core_invariant.proofs.TrapEnds.{EndSays, EndsSo, trap-ends}
use Rattle.core_invariant.proofs.PathStates.{context_at}
use Rattle.core_invariant.proofs.ReadyEnd.{reg-is, tape-is, giving-ready}
use Rattle.core_invariant.proofs.GivenSlot.{given-reg, given-bound}
use Rattle.core_invariant.proofs.ReadyTimer.{GivesSome, LeadsToReady}
use native.Mathlib.Decide.{dec_le}

-- the cell that a task's tape gives: its register a0 has the word after the call
abbrev pub tape_cell : ContextState → ℕ → Cell
tape_cell c word = record { value = word; tag = Of c.body.task_no c.body.count (latches.Reg 10) }

-- the cause is a call's, a7 is 2, and the tape gives the word
in-so : (cause a7 : ℕ) (held : ContextState) (word : ℕ) → cause ≡ 8 → a7 ≡ 2 → slice_get held.body.tape held.body.tape_at ≡ Some word
    → AreSo (in_asked cause a7 held (tape_cell held word))
in-so cause a7 held word e f given =
    let left = left-over held.body.tape_at (length held.body.tape) (slice_get_within held.body.tape held.body.tape_at word given) in
    rw (e, f) (refl, (refl, (refl, (refl, (left, ((given, refl), tt))))))

module _ {tasks : List Task} {number n : ℕ} {h : HartState} {c : ContextState} (call : IsCallTrap tasks number n h c) (word : ℕ)
    (is_in : alone_value (task_of c.body) n (latches.Reg 17) ≡ 2) (given : slice_get c.body.tape (alone_at (task_of c.body) n).tape_at ≡ Some word) where
  -- the state of the run alone after the call
  input-state : called c n ≡ with_input word (alone_at (task_of c.body) n)
  input-state =
      let T = task_of c.body in
      call-inputs T (alone_value T n (latches.Reg 17)) (alone_value T n (latches.Reg 10)) word (alone_at T n) is_in given

  -- the word is a0 of the run alone after the call
  word-is : word ≡ alone_value (task_of c.body) c.body.count (latches.Reg 10)
  word-is = sym ((service-goes-on call (with_input word (alone_at (task_of c.body) n)) input-state call.went_on).value (latches.Reg 10))

  -- the tape's cell says the truth
  pub tape-truthful : IsTruthful tasks (tape_cell c word)
  tape-truthful = record { task = task_of c.body; is_task = call.trap.is_task; is_value = word-is }

  -- the tape's cell is the task's own a0 after the call
  tape-own : IsOwn c.body.task_no (task_of c.body) c.body.count (latches.Reg 10) (tape_cell c word)
  tape-own = inr (record {
    since = c.body.count;
    since_low = (let e : c.body.count ≡ n + 1 = call.count in omega arith);
    since_high = le_refl c.body.count;
    tag = refl;
    value = word-is;
    unchanged = λ k low high. (let same : c.body.count ≡ k = omega arith in
        let P : ℕ → Type 0 = λ m. alone_value (task_of c.body) m (latches.Reg 10) ≡ alone_value (task_of c.body) c.body.count (latches.Reg 10) in
        subst P same refl);
  })

  -- each register's word of the slot is the task's own after the call
  given-own : (regs : ℕ → Cell) → AreOwn n c regs → (at pc : ℕ) (after : ContextState) (g : HartState)
      → EndSays (trapped_setting tasks n regs c (tape_cell c word)) number at (given_slot (trapped_setting tasks n regs c (tape_cell c word)) pc) after g
      → (i : ℕ) → 1 ≤ i → i < 32 → IsOwn c.body.task_no (task_of c.body) c.body.count (latches.Reg i) (slot_word (context_at after g) i)
  given-own regs own at pc after g says i low high = elim (dec_le 10 i) [
    | yes above ↦ by-above (dec_le 11 i) above
    | no below ↦ other (λ same. absurd (omega (arith, same)))
  ]
    where
      other : (i ≡ 10 → ⊥) → IsOwn c.body.task_no (task_of c.body) c.body.count (latches.Reg i) (slot_word (context_at after g) i)
      other differs =
          let s = trapped_setting tasks n regs c (tape_cell c word) in
          let P : Cell → Type 0 = λ cell. IsOwn c.body.task_no (task_of c.body) c.body.count (latches.Reg i) cell in
          let same : slot_word (context_at after g) i ≡ regs i =
          reg-is s i (get_or (given_slot s pc) i AnyTagged) (slot_word (context_at after g) i) (given-reg s pc i low high differs) (says.denoted i) in
          let kept = input-other word (alone_at (task_of c.body) n) i (ne_eqb 10 i (λ ten. differs (sym ten))) in
          let state = with_input word (alone_at (task_of c.body) n) in
          subst P (sym same) (own-after call state input-state call.went_on (latches.Reg i) (regs i) kept (own i low high))

      by-above : Dec (11 ≤ i) → 10 ≤ i → IsOwn c.body.task_no (task_of c.body) c.body.count (latches.Reg i) (slot_word (context_at after g) i)
      by-above (yes more) above = other (λ same. absurd (omega (arith, same)))
      by-above (no less) above =
          let s = trapped_setting tasks n regs c (tape_cell c word) in
          let ten : 10 ≡ i = omega arith in
          let P : Cell → Type 0 = λ cell. IsOwn c.body.task_no (task_of c.body) c.body.count (latches.Reg 10) cell in
          let Q : ℕ → Type 0 = λ j. IsOwn c.body.task_no (task_of c.body) c.body.count (latches.Reg j) (slot_word (context_at after g) j) in
          let same : slot_word (context_at after g) 10 ≡ tape_cell c word =
          tape-is s (get_or (given_slot s pc) 10 AnyTagged) (slot_word (context_at after g) 10) refl (says.denoted 10) in
          subst Q ten (subst P (sym same) tape-own)

-- the path of a task that asks for a word, which its tape has
pub in-ends : (k : KernelParts) (tasks : List Task) (number n : ℕ) (h : HartState) (c : ContextState) (word : ℕ) → IsCallTrap tasks number n h c
    → alone_value (task_of c.body) n (latches.Reg 17) ≡ 2 → slice_get c.body.tape (alone_at (task_of c.body) n).tape_at ≡ Some word
    → (regs : ℕ → Cell) → AreOwn n c regs
    → EndsSo (trapped_setting tasks n regs c (tape_cell c word)) number k h.csrs c in_answers give_ready_index (GivesSome tasks k number)
in-ends k tasks number n h c word call is_in given regs own =
    let T = task_of c.body in
    let trap = call.trap in
    let at = middle_at k + 4 * give_ready_index in
    let pc = low_word (h.csrs.mepc + 4) in
    let after : ContextState = held_after_side AdvancesTape c in
    let state = with_input word (alone_at T n) in
    let is_state = input-state call word is_in given in
    let held_given : slice_get c.body.tape c.body.tape_at ≡ Some word = ap (λ t. slice_get c.body.tape t) trap.tape_at ∙ given in
    let s = trapped_setting tasks n regs c (tape_cell c word) in
    let slot = given_slot s pc in
    record {
      slot = slot;
      after = after;
      conditions = in_asked h.csrs.mcause (regs 17).value c (tape_cell c word);
      ends = in-path s (middle_len + k.restore + 1) h.csrs c;
      so = in-so h.csrs.mcause (regs 17).value c word trap.mcause (own-reg-value n c regs own 17 (lit≤ tt) (lit< tt) ∙ is_in) held_given;
      end_kept = refl;
      there = λ g says. (
        context_at after g,
        giving-ready s number at pc slot after g says refl
            (body-after call state is_state call.went_on c.body.output (c.body.tape_at + 1) trap.output (ap (λ t. t + 1) trap.tape_at) (λ at. refl))
            trap.no_end refl refl (pc-after call state is_state call.went_on refl)
            (given-own call word is_in given regs own at pc after g says) (λ i low. given-bound s pc i low)
            trap.slot trap.valid (within-after call state is_state call.went_on),
      );
    }

module _ (k : KernelParts) (kernel : IsKernel k) (paths-lead : PathsLead) where
  -- A task that asks for a word, which its tape has, is led to where its context is given back.
  pub in-leads : (tasks : List Task) (number n : ℕ) (h : HartState) (c : ContextState) (word : ℕ) → IsCallTrap tasks number n h c
      → alone_value (task_of c.body) n (latches.Reg 17) ≡ 2 → slice_get c.body.tape (alone_at (task_of c.body) n).tape_at ≡ Some word
      → LeadsToReady tasks k number h
  in-leads tasks number n h c word call is_in given = (
    k.save + length in_answers,
    trap-ends k kernel paths-lead tasks number n 8 h c (tape_cell c word) call.trap (tape-truthful call word is_in given) in_answers give_ready_index
        (GivesSome tasks k number) (in-ends k tasks number n h c word call is_in given),
  )
