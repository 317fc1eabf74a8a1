-- A hart after a step in user mode: what it holds, and that its cells say the truth.
use Rattle.std.proofs.Common.{◌≡◌, ℕ, zero, suc, ◌+◌, ◌*◌, ◌≤◌, ◌<◌, inl, inr, List, length, get_or, Option, Some, refl, ap, sym, ◌∙◌, subst, arith}
use Rattle.std.proofs.lemmas.Bool.{and_from, le-leb, lt-ltb}
use Rattle.std.proofs.lemmas.Bool.Decides.{leb_tells}
use Rattle.std.proofs.lemmas.List.{get_or_past}
use Rattle.isa_model.specs.declared.task.Task.{Task}
use Rattle.isa_model.specs.declared.latch.Latch.{Latch}
use Rattle.isa_model.specs.declared.latch.Latch.TheVariants as latches
use Rattle.isa_model.specs.TaskPlaces.{IsValidTask}
use Rattle.hart_model.specs.declared.place.Place.{Place}
use Rattle.hart_model.specs.declared.place.Place.TheVariants as places
use Rattle.hart_model.specs.declared.tag.Cell.{Cell}
use Rattle.hart_model.specs.Cells.{blank}
use Rattle.hart_model.specs.Context.{ContextState, task_of}
use Rattle.hart_model.specs.HartState.{HartState, hart_cell, held_data, held_words}
use Rattle.hart_model.specs.UserLaws.{IsTaskLatch, IsRunLatch}
use Rattle.hart_model.proofs.UserWrites.{data_index}
use Rattle.hart_model.proofs.UserWritesOwn.{run_place}
use Rattle.core_model.specs.Soundness.{IsTruthful}
use Rattle.core_model.specs.Routines.{IsUserState}

-- the latch of a data word, and its place
pub word-latch : (T : Task) (i : ℕ) → IsValidTask T → i < T.data_len → IsTaskLatch T (latches.Mem (T.data_at + 4 * i))
word-latch T i valid low =
    let even = valid.data_aligned in
    let from : T.data_at ≤ T.data_at + 4 * i = omega arith in
    let to : T.data_at + 4 * i < T.data_at + 4 * T.data_len = omega arith in
    (and_from _ _ (le-leb T.data_at (T.data_at + 4 * i) from) (lt-ltb (T.data_at + 4 * i) (T.data_at + 4 * T.data_len) to), omega arith)

pub word-index : (T : Task) (i : ℕ) → data_index T (T.data_at + 4 * i) ≡ i
word-index T i = omega arith

-- the cell of a register is that of the list
pub reg-cell : (g h : HartState) (r : ℕ) → g.regs ≡ h.regs → hart_cell g (places.Reg r) ≡ hart_cell h (places.Reg r)
reg-cell g h zero same = refl
reg-cell g h (suc r) same = ap (λ (cells : List Cell). get_or cells (suc r) blank) same

-- A hart after a step holds the same task in the same slot, with the same slot words, mscratch and word 0.
pub record HasStepped (h : HartState) (c : ContextState) (g : HartState) (d : ContextState) : Type 0 where
  pub held : g.held ≡ Some d
  pub task : task_of d.body ≡ task_of c.body
  pub slot : d.slot ≡ c.slot
  pub words : d.words ≡ c.words
  pub scratch : g.csrs.mscratch ≡ h.csrs.mscratch
  pub zero_word : g.zero_word ≡ h.zero_word
  pub registers : length g.regs ≡ 32

-- Its cells say the truth where those of its latches do that an instruction may write.
module _ (tasks : List Task) (number : ℕ) (h g : HartState) (c d : ContextState) (is : IsUserState tasks number h c) (stepped : HasStepped h c g d)
    (run_latches : (l : Latch) → IsRunLatch (task_of c.body) l → IsTruthful tasks (hart_cell g (run_place (task_of c.body) l))) where
  abbrev T : Task
  T = task_of c.body

  past_list : (cells : List Cell) (i : ℕ) → length cells ≤ i → IsTruthful tasks (get_or cells i blank)
  past_list cells i past = subst (λ (x : Cell). IsTruthful tasks x) (sym (get_or_past cells i blank past)) tt

  reg_truthful : (r : ℕ) → IsTruthful tasks (hart_cell g (places.Reg r))
  reg_truthful zero = tt
  reg_truthful (suc r) = elim (leb_tells 32 (suc r)) [
    | inl past ↦ past_list g.regs (suc r) (let len = stepped.registers in let low = past.1 in omega arith)
    | inr inside ↦ run_latches (latches.Reg (suc r)) inside.1
  ]

  slot_word_truthful : (i : ℕ) → IsTruthful tasks (hart_cell g (places.SlotWord i))
  slot_word_truthful i =
      let same : hart_cell g (places.SlotWord i) ≡ hart_cell h (places.SlotWord i) =
      ap (λ (o : Option ContextState). get_or (held_words o) i blank) stepped.held ∙ ap (λ (cells : List Cell). get_or cells i blank) stepped.words
      ∙ ap (λ (o : Option ContextState). get_or (held_words o) i blank) (sym is.user.held) in
      subst (λ (x : Cell). IsTruthful tasks x) (sym same) (is.sound.truthful (places.SlotWord i))

  data_word_truthful : (i : ℕ) → IsTruthful tasks (hart_cell g (places.DataWord i))
  data_word_truthful i = elim (leb_tells T.data_len i) [
    | inl past ↦
        let len : length d.body.data_words ≡ T.data_len = ap (λ (t : Task). t.data_len) stepped.task in
        subst (λ (o : Option ContextState). IsTruthful tasks (get_or (held_data o) i blank)) (sym stepped.held)
        (past_list d.body.data_words i (let low = past.1 in omega arith))
    | inr inside ↦
        subst (λ (k : ℕ). IsTruthful tasks (hart_cell g (places.DataWord k))) (word-index T i)
        (run_latches (latches.Mem (T.data_at + 4 * i)) (word-latch T i is.valid inside.1))
  ]

  pub all-truthful : (p : Place) → IsTruthful tasks (hart_cell g p)
  all-truthful (places.Reg r) = reg_truthful r
  all-truthful places.PortA = run_latches latches.PortA tt
  all-truthful places.PortB = run_latches latches.PortB tt
  all-truthful places.Res = run_latches latches.Res tt
  all-truthful places.Load = run_latches latches.Load tt
  all-truthful places.Store = run_latches latches.Store tt
  all-truthful places.Scr = subst (λ (x : Cell). IsTruthful tasks x) (sym stepped.scratch) (is.sound.truthful places.Scr)
  all-truthful places.Mul = run_latches latches.Mul tt
  all-truthful places.Zero = subst (λ (x : Cell). IsTruthful tasks x) (sym stepped.zero_word) (is.sound.truthful places.Zero)
  all-truthful (places.SlotWord i) = slot_word_truthful i
  all-truthful (places.DataWord i) = data_word_truthful i
