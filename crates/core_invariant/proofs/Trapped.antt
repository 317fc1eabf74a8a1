-- At a trap a hart is as the start of the save part says.
use Rattle.std.proofs.Common.{◌≡◌, ℕ, zero, suc, ◌≤◌, ◌<◌, List, [], ◌∷◌, ◌++◌, length, get_or, Option, Some, refl, sym, subst, arith, lit<}
use Rattle.isa_model.specs.declared.task.Task.{Task}
use Rattle.isa_model.specs.declared.latch.Latch.TheVariants as latches
use Rattle.isa_model.specs.AloneValue.{alone_value}
use Rattle.hart_model.specs.declared.place.Place.TheVariants.{Reg, PortA, PortB, Res, Load, Store, Mul, SlotWord, DataWord}
use Rattle.hart_model.specs.declared.tag.Cell.{Cell}
use Rattle.hart_model.specs.declared.tag.Tag.{Tag}
use Rattle.hart_model.specs.Cells.{blank}
use Rattle.hart_model.specs.Pmp.{bounds_of}
use Rattle.hart_model.specs.Context.{ContextState, slot_word, data_word, task_of}
use Rattle.hart_model.specs.HartState.{HartState, cells_of, hart_cell, held_words, held_data}
use Rattle.hart_model.specs.MachineStep.{kernel_address}
use Rattle.core_model.specs.Soundness.{IsAsTagged, IsTruthful, IsOwn}
use Rattle.symbolic_run.specs.AbstractCell.{AbstractCell, PublicNumber, TaskReg, OldSlotWord, GivenCell, AnyTagged}
use Rattle.symbolic_run.specs.Concretization.{Valuation, IsSound, AllDenote, RegsDenote, IsDenotedBy}
use Rattle.symbolic_run.specs.SymbolicPath.{IsAsPathSays}
use Rattle.symbolic_run.proofs.Denoted.{denote-next, denote-end, denote-registers}
use Rattle.core_invariant.proofs.KernelCells.{numbered, bound_cells, trapped_cells, at_start}
use Rattle.core_invariant.specs.CutPoints.{IsAtTrap}
use Rattle.core_invariant.proofs.OwnCells.{own-value}
use Rattle.core_invariant.proofs.Numbered.{denote-numbered}

-- the setting of a trapped task, with the cells of its registers and the cell that its tape gives next
abbrev pub trapped_setting : List Task → ℕ → (ℕ → Cell) → ContextState → Cell → Valuation
trapped_setting tasks n regs c given_cell = record {
  tasks = tasks;
  task_no = c.body.task_no;
  task = task_of c.body;
  count = n;
  slot = c.slot;
  task_regs = regs;
  old_words = λ i. slot_word c i;
  given_cell = given_cell;
}

-- the registers of a hart by number, and the words of what it holds
abbrev pub registers_of : HartState → ℕ → Cell
registers_of h i = hart_cell h (Reg i)

abbrev pub words_of : HartState → ℕ → Cell
words_of h i = get_or (held_words h.held) i blank

-- cells that are those of the task's registers after n instructions
abbrev pub AreOwn : ℕ → ContextState → (ℕ → Cell) → Type 0
AreOwn n c regs = (i : ℕ) → 1 ≤ i → i < 32 → IsOwn c.body.task_no (task_of c.body) n (latches.Reg i) (regs i)

-- each has its value in the run alone
pub own-reg-value : (n : ℕ) (c : ContextState) (regs : ℕ → Cell) → AreOwn n c regs → (i : ℕ) → 1 ≤ i → i < 32
    → (regs i).value ≡ alone_value (task_of c.body) n (latches.Reg i)
own-reg-value n c regs own i low high = own-value (task_of c.body) c.body.task_no n (latches.Reg i) (regs i) (own i low high)

-- a register but x0 is in the list
pub reg-cell : (h : HartState) (i : ℕ) → 1 ≤ i → hart_cell h (Reg i) ≡ get_or h.regs i blank
reg-cell h zero low = absurd (omega arith)
reg-cell h (suc i) low = refl

-- the word of the pc is public
pub first-truthful : {tasks : List Task} {number n cause : ℕ} {h : HartState} {c : ContextState} → IsAtTrap tasks number n cause h c
    → IsTruthful tasks (slot_word c 0)
first-truthful {tasks = tasks} {c = c} trap = subst (λ (t : Tag). IsAsTagged tasks (slot_word c 0).value t) (sym trap.saved_pc) tt

module _ {tasks : List Task} {number n cause : ℕ} {h : HartState} {c : ContextState}
    (trap : IsAtTrap tasks number n cause h c) (given_cell : Cell) (tape_truthful : IsTruthful tasks given_cell) where
  -- the words of the slot and the data words are those of the context
  pub word-truthful : (i : ℕ) → IsTruthful tasks (slot_word c i)
  word-truthful i =
      let P : Option ContextState → Type 0 = λ o. IsTruthful tasks (get_or (held_words o) i blank) in
      subst P trap.held (trap.truthful (SlotWord i))

  pub data-truthful : (i : ℕ) → IsTruthful tasks (data_word c.body i)
  data-truthful i =
      let P : Option ContextState → Type 0 = λ o. IsTruthful tasks (get_or (held_data o) i blank) in
      subst P trap.held (trap.truthful (DataWord i))

  -- the setting is sound
  pub trap-setting-sound : (regs : ℕ → Cell) → AreOwn n c regs → IsSound (trapped_setting tasks n regs c given_cell)
  trap-setting-sound regs own = record {
    slot = trap.slot;
    is_task = trap.is_task;
    regs = own;
    words = λ i low high. word-truthful i;
    given_cell = tape_truthful;
  }

module _ {tasks : List Task} {number n cause : ℕ} {h : HartState} {c : ContextState} (trap : IsAtTrap tasks number n cause h c) where
  -- the setting of the save part, in which the word of the pc is a given cell
  abbrev pub saving_setting : Valuation
  saving_setting = trapped_setting tasks n (registers_of h) c (slot_word c 0)

  pub saving-sound : IsSound saving_setting
  saving-sound = trap-setting-sound trap (slot_word c 0) (first-truthful trap) (registers_of h) trap.registers

  -- the registers, the words of the slot and the other latches are as the start of the save part says
  trap-regs : RegsDenote (saving_setting) (AnyTagged ∷ numbered TaskReg 1 31) h.regs
  trap-regs =
      let s = saving_setting in
      let len : length h.regs ≡ 32 = trap.registers_len in
      denote-registers s AnyTagged (numbered TaskReg 1 31) h.regs (omega arith)
      (denote-numbered s TaskReg 1 31 [] h.regs (omega arith) (λ k low under. (low, omega arith, sym (reg-cell h k low)))
      (denote-end s h.regs 32 (omega arith)))

  -- a bound's cell
  abbrev bound-cell : ℕ → AbstractCell
  bound-cell i = PublicNumber (get_or (bounds_of (task_of c.body)) i 0)

  trap-slot : AllDenote (saving_setting)
      (GivenCell ∷ numbered OldSlotWord 1 31 ++ bound_cells (task_of c.body)) c.words
  trap-slot =
      let s = saving_setting in
      let len : length c.words ≡ 36 = trap.words in
      denote-next s GivenCell (numbered OldSlotWord 1 31 ++ bound_cells (task_of c.body)) c.words 0 (omega arith) refl
      (denote-numbered s OldSlotWord 1 31 (bound_cells (task_of c.body)) c.words (omega arith) (λ k low under. (low, omega arith, refl))
      (denote-next s (bound-cell 0) (bound-cell 1 ∷ bound-cell 2 ∷ bound-cell 3 ∷ []) c.words 32 (omega arith) (trap.bounds 0 (lit< tt))
      (denote-next s (bound-cell 1) (bound-cell 2 ∷ bound-cell 3 ∷ []) c.words 33 (omega arith) (trap.bounds 1 (lit< tt))
      (denote-next s (bound-cell 2) (bound-cell 3 ∷ []) c.words 34 (omega arith) (trap.bounds 2 (lit< tt))
      (denote-next s (bound-cell 3) [] c.words 35 (omega arith) (trap.bounds 3 (lit< tt)) (denote-end s c.words 36 (omega arith)))))))

  trap-denotes : IsDenotedBy (saving_setting) (trapped_cells (saving_setting)) (cells_of h)
  trap-denotes =
      let s = saving_setting in
      let P : Option ContextState → Type 0 = λ o. AllDenote s (trapped_cells s).slot (held_words o) in
      record {
        regs = trap-regs;
        port_a = trap.truthful PortA;
        port_b = trap.truthful PortB;
        res = trap.truthful Res;
        load = trap.truthful Load;
        store = trap.truthful Store;
        scr = trap.scratch;
        mul = trap.truthful Mul;
        zero = trap.zero_word;
        slot = subst P (sym trap.held) trap-slot;
        no_data = refl;
      }

  -- A trapped hart is as the start of the save part says.
  pub trap-says : IsAsPathSays (saving_setting) number kernel_address
      (at_start (trapped_cells (saving_setting)) h.csrs c) h
  trap-says =
      let P : Option ContextState → Type 0 = λ o. o ≡ Some (record c { words = held_words o }) in
      record {
        mode = trap.mode;
        csrs = refl;
        csrs_sound = trap.csrs;
        pc = trap.pc;
        held = subst P (sym trap.held) refl;
        slot = refl;
        cells = trap-denotes;
        registers = trap.registers_len;
        zero_word = trap.zero_word;
        data_words = data-truthful trap (slot_word c 0) (first-truthful trap);
      }
