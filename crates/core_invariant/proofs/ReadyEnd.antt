-- A hart at the end of a path to the give, whose context is its task's, is about to give a ready context.
use Rattle.std.proofs.Common.{◌≡◌, ℕ, zero, suc, ◌+◌, ◌≤◌, ◌<◌, List, length, get_or, None, refl, sym, ap, subst, ◌∙◌, arith}
use Rattle.isa_model.specs.declared.task.Task.{Task}
use Rattle.isa_model.specs.declared.latch.Latch.TheVariants as latches
use Rattle.isa_model.specs.TaskPlaces.{IsValidTask}
use Rattle.isa_model.specs.Alone.{alone_at}
use Rattle.hart_model.specs.declared.tag.Cell.{Cell}
use Rattle.hart_model.specs.Pmp.{bounds_of}
use Rattle.hart_model.specs.Csrs.{public}
use Rattle.hart_model.specs.Context.{ContextState, slot_len, pc_word, bound_word, slot_word, task_of}
use Rattle.hart_model.specs.HartState.{HartState}
use Rattle.core_model.specs.Soundness.{IsOwn, IsBodyCase, HasBounds}
use Rattle.symbolic_run.specs.AbstractCell.{AbstractCell, AnyTagged, PublicNumber, TaskReg, GivenCell}
use Rattle.symbolic_run.specs.Concretization.{Valuation, Denotes}
use Rattle.core_invariant.proofs.KernelCells.{bound_cells}
use Rattle.core_invariant.specs.CutPoints.{IsGivingReady}
use Rattle.core_invariant.proofs.ReadyPaths.{saved_slot}
use Rattle.core_invariant.proofs.Numbered.{numbered-get, numbered-skip}
use Rattle.core_invariant.proofs.ReadyContext.{ready-of}
use Rattle.core_invariant.proofs.TrapEnds.{EndSays}
use Rattle.core_invariant.proofs.PathStates.{context_at}

-- a cell of which a state says that it is a task's register is this register's cell of the start
pub reg-is : (s : Valuation) (i : ℕ) (a : AbstractCell) (cell : Cell) → a ≡ TaskReg i → Denotes s a cell → cell ≡ s.task_regs i
reg-is s i a cell e d = let P : AbstractCell → Type 0 = λ x. Denotes s x cell in (subst P e d).2

-- one of which it says a public number has this number
pub number-is : (s : Valuation) (value : ℕ) (a : AbstractCell) (cell : Cell) → a ≡ PublicNumber value → Denotes s a cell → cell ≡ public value
number-is s value a cell e d = let P : AbstractCell → Type 0 = λ x. Denotes s x cell in subst P e d

-- and one of which it says that the tape gives it is the tape's
pub tape-is : (s : Valuation) (a : AbstractCell) (cell : Cell) → a ≡ GivenCell → Denotes s a cell → cell ≡ s.given_cell
tape-is s a cell e d = let P : AbstractCell → Type 0 = λ x. Denotes s x cell in subst P e d

-- the registers among the words of a saved task's slot
saved-reg : (s : Valuation) (pc i : ℕ) → 1 ≤ i → i < 32 → get_or (saved_slot s pc) i AnyTagged ≡ TaskReg i
saved-reg s pc zero low high = absurd (omega arith)
saved-reg s pc (suc i) low high =
    let same : 1 + i ≡ suc i = omega arith in
    numbered-get TaskReg 1 31 (bound_cells s.task) i AnyTagged (omega arith) ∙ ap TaskReg same

-- the bounds by their numbers, and among the words of the slot
pub bound-at : (T : Task) (i : ℕ) → i < 4 → get_or (bound_cells T) i AnyTagged ≡ PublicNumber (get_or (bounds_of T) i 0)
bound-at T zero low = refl
bound-at T (suc zero) low = refl
bound-at T (suc (suc zero)) low = refl
bound-at T (suc (suc (suc zero))) low = refl
bound-at T (suc (suc (suc (suc i)))) low = absurd (omega arith)

saved-bound : (s : Valuation) (pc i : ℕ) → i < 4 → get_or (saved_slot s pc) (bound_word i) AnyTagged ≡ PublicNumber (get_or (bounds_of s.task) i 0)
saved-bound s pc i low =
    let same : bound_word i ≡ suc (31 + i) = omega arith in
    ap (λ k. get_or (saved_slot s pc) k AnyTagged) same ∙ numbered-skip TaskReg 1 31 (bound_cells s.task) i AnyTagged ∙ bound-at s.task i low

-- A hart is about to give the context, where its registers are the task's own at the count.
pub giving-ready : (s : Valuation) (number at pc : ℕ) (slot : List AbstractCell) (after : ContextState) (g : HartState) → EndSays s number at slot after g
    → s.task ≡ task_of after.body → IsBodyCase s.tasks after.body → after.end ≡ None → length slot ≡ slot_len
    → get_or slot pc_word AnyTagged ≡ PublicNumber pc → pc ≡ (alone_at (task_of after.body) after.body.count).pc
    → ((i : ℕ) → 1 ≤ i → i < 32 → IsOwn after.body.task_no (task_of after.body) after.body.count (latches.Reg i) (slot_word (context_at after g) i))
    → ((i : ℕ) → i < 4 → get_or slot (bound_word i) AnyTagged ≡ PublicNumber (get_or (bounds_of s.task) i 0))
    → after.slot < 8 → IsValidTask (task_of after.body) → after.body.count ≤ after.body.fuel
    → IsGivingReady s.tasks number at g (context_at after g)
giving-ready s number at pc slot after g says same_task body no_end len pc_cell pc_is registers bounds low valid within =
    let d : ContextState = context_at after g in
    let has_bounds : HasBounds d = λ i small.
    number-is s (get_or (bounds_of s.task) i 0) (get_or slot (bound_word i) AnyTagged) (slot_word d (bound_word i)) (bounds i small)
    (says.denoted (bound_word i))
    ∙ ap (λ T. public (get_or (bounds_of T) i 0)) same_task in
    let saved_pc : slot_word d pc_word ≡ public (alone_at (task_of after.body) after.body.count).pc =
    number-is s pc (get_or slot pc_word AnyTagged) (slot_word d pc_word) pc_cell (says.denoted pc_word) ∙ ap public pc_is in
    record {
      hart = says.hart;
      held = says.held;
      truthful = says.truthful;
      given = ready-of s.tasks d body no_end (says.words ∙ len) saved_pc registers has_bounds low valid within;
    }

-- With the words of a saved task the registers are those of the start.
pub giving-saved : (s : Valuation) (number at pc : ℕ) (after : ContextState) (g : HartState) → EndSays s number at (saved_slot s pc) after g
    → s.task ≡ task_of after.body → IsBodyCase s.tasks after.body → after.end ≡ None → pc ≡ (alone_at (task_of after.body) after.body.count).pc
    → ((i : ℕ) → 1 ≤ i → i < 32 → IsOwn after.body.task_no (task_of after.body) after.body.count (latches.Reg i) (s.task_regs i))
    → after.slot < 8 → IsValidTask (task_of after.body) → after.body.count ≤ after.body.fuel
    → IsGivingReady s.tasks number at g (context_at after g)
giving-saved s number at pc after g says same_task body no_end pc_is registers low valid within =
    giving-ready s number at pc (saved_slot s pc) after g says same_task body no_end refl refl pc_is own (λ i small. saved-bound s pc i small) low valid within
  where
    own : (i : ℕ) → 1 ≤ i → i < 32 → IsOwn after.body.task_no (task_of after.body) after.body.count (latches.Reg i) (slot_word (context_at after g) i)
    own i least most =
        let P : Cell → Type 0 = λ cell. IsOwn after.body.task_no (task_of after.body) after.body.count (latches.Reg i) cell in
        let same : slot_word (context_at after g) i ≡ s.task_regs i =
        reg-is s i (get_or (saved_slot s pc) i AnyTagged) (slot_word (context_at after g) i) (saved-reg s pc i least most) (says.denoted i) in
        subst P (sym same) (registers i least most)
