-- A task that is admitted into a slot without anything of a task in it is a ready context that may be given.
use Rattle.std.proofs.Common.{◌≡◌, ℕ, zero, suc, ◌+◌, ◌*◌, ◌<◌, ◌≤◌, ◌∙◌, inl, List, length, get_or, replicate, slice_get, Some, refl, ap, sym, subst, arith}
use Rattle.isa_model.specs.declared.task.Task.{Task}
use Rattle.isa_model.specs.declared.latch.Latch.{Latch}
use Rattle.isa_model.specs.declared.latch.Latch.TheVariants as latches
use Rattle.isa_model.specs.TaskPlaces.{IsValidTask}
use Rattle.isa_model.specs.Alone.{alone_at}
use Rattle.isa_model.specs.AloneValue.{alone_value}
use Rattle.hart_model.specs.declared.tag.Cell.{Cell}
use Rattle.hart_model.specs.Cells.{blank}
use Rattle.hart_model.specs.Context.{BodyState, ContextState, StandsForTask, task_of, fresh_body, admit_of, slot_len, slot_word, data_word}
use Rattle.core_model.specs.Soundness.{IsOwn, IsBodyCase, IsReadyCase, IsWaitingCase}
use Rattle.core_model.specs.Routines.{IsReadyContext}
use Rattle.core_invariant.specs.CutPoints.{IsDoneContext}
use Rattle.core_invariant.proofs.StartWords.{length-start, start-pc, start-register, start-bound}

-- at the start every value is 0
zero_at_start : (T : Task) (l : Latch) (k : ℕ) → k ≤ 0 → alone_value T k l ≡ 0
unfolding alone_at
zero_at_start T l zero le = refl
zero_at_start T l (suc k) le = absurd (omega arith)

-- so a blank cell is the task's own
blank_is_own : (task_no : ℕ) (T : Task) (l : Latch) (cell : Cell) → cell ≡ blank → IsOwn task_no T 0 l cell
blank_is_own task_no T l cell is = inl (record {
  tag = ap (λ (c : Cell). c.tag) is;
  value = ap (λ (c : Cell). c.value) is;
  never = zero_at_start T l;
})

all_blank : (n i : ℕ) → get_or (replicate n blank) i blank ≡ blank
all_blank zero i = refl
all_blank (suc n) zero = refl
all_blank (suc n) (suc i) = all_blank n i

-- A slot's words without anything of a task.
pub record AreCleanWords (words : List Cell) : Type 0 where
  pub length : length words ≡ slot_len
  pub registers : (i : ℕ) → 1 ≤ i → i < 32 → get_or words i blank ≡ blank

module _ (tasks : List Task) (task_no : ℕ) (task : Task) (slot : ℕ) (words : List Cell) (clean : AreCleanWords words) where
  abbrev body : BodyState
  body = fresh_body task_no task

  abbrev context : ContextState
  context = admit_of body slot words

  register_blank : (i : ℕ) → 1 ≤ i → i < 32 → slot_word context i ≡ blank
  register_blank i low high = start-register (task_of body) words i low high ∙ clean.registers i low high

  stands : StandsForTask context (task_of body)
  unfolding alone_at
  stands = record {
    task = refl;
    words = length-start (task_of body) words ∙ clean.length;
    pc = ap (λ (c : Cell). c.value) (start-pc (task_of body) words clean.length);
    registers = λ i low high. ap (λ (c : Cell). c.value) (register_blank i low high);
    bounds = λ i lt. ap (λ (c : Cell). c.value) (start-bound (task_of body) words i clean.length lt);
    data_words = λ i lt. ap (λ (c : Cell). c.value) (all_blank task.data_len i);
    output = refl;
    tape_at = refl;
  }

  body_case : slice_get tasks task_no ≡ Some (task_of body) → IsBodyCase tasks body
  unfolding alone_at
  body_case is = record {
    is_task = is;
    is_running = inl refl;
    output = refl;
    tape_at = refl;
    data_words = λ i lt. blank_is_own task_no (task_of body) (latches.Mem (body.data_at + 4 * i)) (data_word body i) (all_blank task.data_len i);
  }

  ready_case : slice_get tasks task_no ≡ Some (task_of body) → IsReadyCase tasks context
  ready_case is = record {
    stands = stands;
    body = body_case is;
    no_end = refl;
    saved_pc = ap (λ (c : Cell). c.tag) (start-pc (task_of body) words clean.length);
    saved_registers = λ i low high. blank_is_own task_no (task_of body) (latches.Reg i) (slot_word context i) (register_blank i low high);
    bounds = λ i lt. start-bound (task_of body) words i clean.length lt;
  }

  fresh_admitted : slice_get tasks task_no ≡ Some (task_of body) → IsValidTask (task_of body) → slot < 8 → IsReadyContext tasks context
  fresh_admitted is valid low = record { ready = ready_case is; slot = low; valid = valid; within = omega arith }

-- A waiting task in a clean slot may be given.
pub clean-admits : (tasks : List Task) (b : BodyState) (slot : ℕ) (words : List Cell) → AreCleanWords words → IsWaitingCase tasks b
    → IsValidTask (task_of b) → slot < 8
    → IsReadyContext tasks (admit_of b slot words)
clean-admits tasks b slot words clean waits valid low =
    let P : BodyState → Type 0 = λ x. slice_get tasks x.task_no ≡ Some (task_of x) → IsValidTask (task_of x) → IsReadyContext tasks (admit_of x slot words) in
    subst P (sym waits.is_fresh) (λ is sure. fresh_admitted tasks b.task_no (task_of b) slot words clean is sure low) waits.is_task valid

-- The slot of an ended context serves any waiting task.
pub done-admits : (tasks : List Task) (c : ContextState) (b : BodyState) → IsDoneContext tasks c → IsWaitingCase tasks b → IsValidTask (task_of b)
    → IsReadyContext tasks (admit_of b c.slot c.words)
done-admits tasks c b done waits valid = clean-admits tasks b c.slot c.words (record { length = done.words; registers = done.scrubbed }) waits valid done.slot
