-- Words save a task, whatever code follows them, where the run over abstract cells from a trapped task ends with the task saved.
use Rattle.std.proofs.Common.{◌≡◌, ◌⊎◌, inl, inr, ℕ, zero, suc, ◌+◌, ◌-◌, ◌≤◌, ◌<◌, Bool, false, List, [], ◌++◌, length, get_or, Some, refl, sym, ap, subst, ◌∙◌, ◌||◌, arith}
use Rattle.std.proofs.lemmas.List.{get_or_past}
use native.Mathlib.Decide.{dec_le}
use Rattle.isa_model.specs.declared.task.Task.{Task}
use Rattle.isa_model.specs.declared.latch.Latch.TheVariants as latches
use Rattle.hart_model.specs.declared.calls.Did.{Did}
use Rattle.hart_model.specs.declared.calls.Did.TheVariants.{Trapped}
use Rattle.hart_model.specs.declared.place.Place.{Place}
use Rattle.hart_model.specs.declared.place.Place.TheVariants.{Reg, SlotWord, DataWord}
use Rattle.hart_model.specs.declared.probe.Probe.{Probe}
use Rattle.hart_model.specs.declared.tag.Cell.{Cell}
use Rattle.hart_model.specs.declared.tag.Tag.TheVariants.{Public}
use Rattle.hart_model.specs.Cells.{blank}
use Rattle.hart_model.specs.Pmp.{bounds_of}
use Rattle.hart_model.specs.Csrs.{public}
use Rattle.hart_model.specs.Context.{ContextState, bound_word, slot_address, slot_word, task_of}
use Rattle.hart_model.specs.HartState.{HartState, cells_of, hart_cell, held_words}
use Rattle.hart_model.specs.MachineStep.{kernel_address}
use Rattle.hart_model.specs.StepResult.{Steps}
use Rattle.core_model.specs.Soundness.{IsOwn}
use Rattle.core_model.specs.Routines.{IsTrapped, IsLatchPlace, IsOtherLatch, IsPartSound, HasSaved, HasSavedTags, SavesValues, SavesExplained, ComesTo, run_of_part, has_tick, part_limit}
use Rattle.symbolic_run.specs.AbstractCell.{AbstractCell, AbstractState, AnyTagged, SlotAddress, OldSlotWord, PublicNumber, TaskReg, is_tagged, abstract_cell_at}
use Rattle.symbolic_run.specs.AbstractRun.{run_of, instrs_of}
use Rattle.symbolic_run.specs.Concretization.{Valuation, IsSound, Denotes, IsDenotedBy}
use Rattle.symbolic_run.specs.SymbolicPath.{PathState, StandAt, IsAsPathSays}
use Rattle.symbolic_run.proofs.OneWrite.{IsSpokenOf, denoted-public, cell-denoted}
use Rattle.symbolic_run.proofs.Stand.{stand-among}
use Rattle.symbolic_run.proofs.PartRuns.{comes-map, IsOnPath}
use Rattle.symbolic_run.proofs.StraightRuns.{run-of-part, run-sound, run-ends}
use Rattle.core_invariant.specs.CutPoints.{IsAtTrap}
use Rattle.core_invariant.proofs.KernelCells.{reached, bound_cells, trapped_cells, at_start}
use Rattle.core_invariant.proofs.OwnCells.{own-value}
use Rattle.core_invariant.proofs.Numbered.{numbered-skip}
use Rattle.core_invariant.proofs.PathStates.{slot-denoted, slot-len, register-denoted}
use Rattle.core_invariant.proofs.ReadyEnd.{reg-is, number-is, tape-is, bound-at}
use Rattle.core_invariant.proofs.Trapped.{registers_of, saving_setting, saving-sound, trap-says}
use Rattle.core_invariant.proofs.UserTraps.{user-mode-step}
use Rattle.core_invariant.proofs.UserSteps.{user-step-leads}

-- Where a run that saves ends: the task's registers stand in the slot, whose other words are as before, no latch is tagged, and x5 and
-- mscratch have the slot's address.
pub record IsSavedState (a b : AbstractState) : Type 0 where
  pub saved : (i : ℕ) → 1 ≤ i → i < 32 → get_or b.slot i AnyTagged ≡ TaskReg i
  pub others : (i : ℕ) → (i ≡ 0) ⊎ (32 ≤ i) → get_or b.slot i AnyTagged ≡ get_or a.slot i AnyTagged
  pub slot_len : length b.slot ≡ length a.slot
  pub x5 : abstract_cell_at b (Reg 5) ≡ SlotAddress
  pub scratch : b.scr ≡ SlotAddress
  pub registers : (i : ℕ) → 1 ≤ i → i < 32 → is_tagged (abstract_cell_at b (Reg i)) ≡ false
  pub latches : (q : Place) → IsOtherLatch q → is_tagged (abstract_cell_at b q) ≡ false

-- what is asked of words that save: from each trapped task the run ends so
pub record RunsSave (words : List ℕ) : Type 0 where
  pub few : length words ≤ part_limit
  pub ends : (s : Valuation) → (b : AbstractState) × (run_of reached words (trapped_cells s) ≡ Some b) × IsSavedState (trapped_cells s) b

-- the hart, and what it did, of two steps that are one
same-hart : (g h : HartState) (ps qs : List Probe) (did done : Did) → Steps g ps did ≡ Steps h qs done → (g ≡ h) × (did ≡ done)
same-hart g h ps qs did done e = (cc e, cc e)

-- A hart that has trapped stands at a trap.
pub trapped-at : (tasks : List Task) (number n : ℕ) (h : HartState) (c : ContextState) → IsTrapped tasks number n h c
    → (cause : ℕ) × IsAtTrap tasks number n cause h c
trapped-at tasks number n h c t =
    let step = user-step-leads tasks number [] t.user t.context t.state in
    let same = same-hart step.hart h step.probes t.probes step.did (Trapped t.cause)
    (sym step.step ∙ user-mode-step tasks number t.user t.context t.state [] ∙ t.step) in
    let trap = step.at_trap t.cause same.1 in
    let context : step.context ≡ c = cc (sym step.held ∙ ap (λ (x : HartState). x.held) same.0 ∙ t.held) in
    let P : HartState → Type 0 = λ x. IsAtTrap tasks number t.context.body.count t.cause x step.context in
    let Q : ContextState → Type 0 = λ d. IsAtTrap tasks number t.context.body.count t.cause h d in
    let R : ℕ → Type 0 = λ m. IsAtTrap tasks number m t.cause h c in
    (t.cause, subst R t.count (subst Q context (subst P same.0 trap)))

-- a cell of which it is known that it is the slot's address
pub address-is : (s : Valuation) (a : AbstractCell) (cell : Cell) → a ≡ SlotAddress → Denotes s a cell → cell ≡ public (slot_address s.slot)
address-is s a cell e d = let P : AbstractCell → Type 0 = λ x. Denotes s x cell in subst P e d

-- a latch that isn't known as tagged is public
latch-spoken : (q : Place) → IsLatchPlace q → IsSpokenOf q
latch-spoken (DataWord i) is = absurd is
latch-spoken q is = tt

pub latch-untagged : (s : Valuation) (b : AbstractState) (g : HartState) (q : Place) → IsLatchPlace q → IsDenotedBy s b (cells_of g)
    → is_tagged (abstract_cell_at b q) ≡ false → (hart_cell g q).tag ≡ Public
latch-untagged s b g q is denoted e = denoted-public s (abstract_cell_at b q) (hart_cell g q) e (cell-denoted s b g q (latch-spoken q is) denoted)

-- the words stand in a code that begins with them
pub save-stands : (words : List ℕ) → RunsSave words → (s : Valuation) (rest : List ℕ) → StandAt (words ++ rest) kernel_address (instrs_of words)
save-stands words runs s rest =
    let ends = runs.ends s in
    let part = run-of-part reached words (trapped_cells s) ends.0 ends.1 in
    let few = runs.few in
    let count = part.count in
    stand-among [] words rest (instrs_of words) (omega arith) (omega (arith, few, count)) part.decode

module _ (words : List ℕ) (runs : RunsSave words) (tasks : List Task) (number n : ℕ) (h : HartState) (c : ContextState) (cause : ℕ)
    (trap : IsAtTrap tasks number n cause h c) where
  abbrev setting : Valuation
  setting = saving_setting trap

  sound : IsSound setting
  sound = saving-sound trap

  abbrev left : AbstractState
  left = (runs.ends setting).0

  is-saved : IsSavedState (trapped_cells setting) left
  is-saved = (runs.ends setting).2

  abbrev end : PathState
  end = record (at_start (trapped_cells setting) h.csrs c) { cells = left; index = length words }

  -- what is so of a hart at the end of the run
  module _ (ticks : List Bool) (g : HartState) (says : IsAsPathSays setting number kernel_address end g)
      (pending : g.csrs.is_timer_pending ≡ h.csrs.is_timer_pending || has_tick ticks) where
    word-own : (i : ℕ) → 1 ≤ i → i < 32 → get_or (held_words g.held) i blank ≡ registers_of h i
    word-own i low high =
        reg-is setting i (get_or left.slot i AnyTagged) (get_or (held_words g.held) i blank) (is-saved.saved i low high) (slot-denoted says i)

    words-len : length (held_words g.held) ≡ 36
    words-len = slot-len says ∙ is-saved.slot_len

    bound-known : (i : ℕ) → i < 4 → get_or left.slot (bound_word i) AnyTagged ≡ PublicNumber (get_or (bounds_of (task_of c.body)) i 0)
    bound-known i low =
        let same : bound_word i ≡ suc (31 + i) = omega arith in
        let slot : List AbstractCell = (trapped_cells setting).slot in
        is-saved.others (bound_word i) (inr (omega arith)) ∙ ap (λ k. get_or slot k AnyTagged) same
        ∙ numbered-skip OldSlotWord 1 31 (bound_cells (task_of c.body)) i AnyTagged
        ∙ bound-at (task_of c.body) i low

    bound-same : (i : ℕ) → i < 4 → get_or (held_words g.held) (bound_word i) blank ≡ slot_word c (bound_word i)
    bound-same i low =
        number-is setting (get_or (bounds_of (task_of c.body)) i 0) (get_or left.slot (bound_word i) AnyTagged)
        (get_or (held_words g.held) (bound_word i) blank) (bound-known i low) (slot-denoted says (bound_word i))
        ∙ sym (trap.bounds i low)

    past : (i : ℕ) → 36 ≤ i → get_or (held_words g.held) i blank ≡ slot_word c i
    past i high =
        let len = words-len in
        let len_too : length c.words ≡ 36 = trap.words in
        get_or_past (held_words g.held) i blank (omega (arith, len, high)) ∙ sym (get_or_past c.words i blank (omega (arith, len_too, high)))

    others-from : (i : ℕ) → Dec (36 ≤ i) → 32 ≤ i → get_or (held_words g.held) i blank ≡ slot_word c i
    others-from i (yes high) low = past i high
    others-from i (no under) low =
        let P : ℕ → Type 0 = λ j. get_or (held_words g.held) j blank ≡ slot_word c j in
        let same : 32 + (i - 32) ≡ i = omega arith in
        subst P same (bound-same (i - 32) (omega arith))

    first-same : get_or (held_words g.held) 0 blank ≡ slot_word c 0
    first-same =
        tape-is setting (get_or left.slot 0 AnyTagged) (get_or (held_words g.held) 0 blank) (is-saved.others 0 (inl refl)) (slot-denoted says 0)

    others : (i : ℕ) → (i ≡ 0) ⊎ (32 ≤ i) → get_or (held_words g.held) i blank ≡ slot_word c i
    others i (inr high) = others-from i (dec_le 36 i) high
    others i (inl is) =
        let P : ℕ → Type 0 = λ j. get_or (held_words g.held) j blank ≡ slot_word c j in
        subst P (sym is) first-same

    saved : HasSaved n ticks h c g
    saved = record {
      held = says.held;
      words = words-len;
      saved = λ i low high. ap (λ (x : Cell). x.value) (word-own i low high)
          ∙ own-value (task_of c.body) c.body.task_no n (latches.Reg i) (registers_of h i) (trap.registers i low high);
      others = others;
      x5 = ap (λ (x : Cell). x.value) (address-is setting (get_or left.regs 5 AnyTagged) (hart_cell g (Reg 5)) is-saved.x5 (register-denoted says 4));
      scratch = ap (λ (x : Cell). x.value) (address-is setting left.scr g.csrs.mscratch is-saved.scratch says.cells.scr);
      zero = ap (λ (x : Cell). x.value) says.zero_word;
      csrs = says.csrs ∙ ap (λ b. record h.csrs { mscratch = g.csrs.mscratch; is_timer_pending = b }) pending;
    }

    register-public : (r : ℕ) → Dec (32 ≤ r) → (hart_cell g (Reg r)).tag ≡ Public
    register-public zero d = refl
    register-public (suc r) (yes high) =
        let len = says.registers in ap (λ (x : Cell). x.tag) (get_or_past g.regs (suc r) blank (omega (arith, len, high)))
    register-public (suc r) (no under) =
        latch-untagged setting left g (Reg (suc r)) tt says.cells (is-saved.registers (suc r) (omega arith) (omega arith))

    latch-public : (q : Place) → IsLatchPlace q → (hart_cell g q).tag ≡ Public
    latch-public (SlotWord i) is = absurd is
    latch-public (DataWord i) is = absurd is
    latch-public (Reg r) is = register-public r (dec_le 32 r)
    latch-public q is = latch-untagged setting left g q tt says.cells (is-saved.latches q tt)

    tags : HasSavedTags n c g
    tags = record {
      saved = λ i low high. subst (IsOwn c.body.task_no (task_of c.body) n (latches.Reg i)) (sym (word-own i low high)) (trap.registers i low high);
      latches = latch-public;
    }

  -- runs of the words
  module _ (rest : List ℕ) (ticks : List Bool) where
    runs-end : length ticks ≡ length words → ComesTo (IsOnPath setting number kernel_address ticks h end) (run_of_part (words ++ rest) ticks h)
    runs-end same =
        run-ends reached setting sound number kernel_address (words ++ rest) words (save-stands words runs setting rest)
        (at_start (trapped_cells setting) h.csrs c) left refl (runs.ends setting).1 ticks h (trap-says trap) same

    runs-save : length ticks ≡ length words → ComesTo (λ a. HasSaved n ticks h c a.hart) (run_of_part (words ++ rest) ticks h)
    runs-save same =
        comes-map (IsOnPath setting number kernel_address ticks h end) (λ a. HasSaved n ticks h c a.hart) (run_of_part (words ++ rest) ticks h)
        (λ a on. saved ticks a.hart on.says on.pending) (runs-end same)

    runs-tag : length ticks ≡ length words → ComesTo (λ a. HasSavedTags n c a.hart) (run_of_part (words ++ rest) ticks h)
    runs-tag same =
        comes-map (IsOnPath setting number kernel_address ticks h end) (λ a. HasSavedTags n c a.hart) (run_of_part (words ++ rest) ticks h)
        (λ a on. tags ticks a.hart on.says on.pending) (runs-end same)

    runs-sound : length ticks ≤ length words → ComesTo (IsPartSound tasks number c) (run_of_part (words ++ rest) ticks h)
    runs-sound le =
        run-sound reached setting sound number kernel_address (words ++ rest) words (save-stands words runs setting rest)
        (at_start (trapped_cells setting) h.csrs c) left refl (runs.ends setting).1 ticks h (trap-says trap) c trap.held le

-- Such words save, whatever code follows them.
module _ (words : List ℕ) (runs : RunsSave words) (rest : List ℕ) where
  pub save-values : SavesValues (words ++ rest) (length words)
  save-values tasks number n h c ticks t same =
      let at = trapped-at tasks number n h c t in
      runs-save words runs tasks number n h c at.0 at.1 rest ticks same

  pub save-explained : SavesExplained (words ++ rest) (length words)
  save-explained = record {
    sound = λ tasks number n h c ticks t le.
        (let at = trapped-at tasks number n h c t in runs-sound words runs tasks number n h c at.0 at.1 rest ticks le);
    tags = λ tasks number n h c ticks t same.
        (let at = trapped-at tasks number n h c t in runs-tag words runs tasks number n h c at.0 at.1 rest ticks same);
  }
