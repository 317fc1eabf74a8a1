-- The kernel's own parts save and restore: the checker follows their words over abstract cells.
use Rattle.std.proofs.Common.{◌≡◌, ◌⊎◌, inl, inr, ℕ, zero, suc, ◌+◌, ◌-◌, ◌≤◌, ◌<◌, true, false, List, [], ◌∷◌, ◌++◌, length, get_or, drop, Option, Some, None, refl, sym, ap, subst, ◌∙◌, arith}
use Rattle.std.specs.List.{list_all}
use Rattle.std.proofs.lemmas.Bool.{not-true}
use Rattle.std.proofs.lemmas.List.Elements.{All-get_or}
use Rattle.std.proofs.lemmas.List.Sums.{AllPass-from_list_all}
use Rattle.hart_model.specs.declared.place.Place.{Place}
use Rattle.hart_model.specs.declared.place.Place.TheVariants.{Reg, SlotWord, DataWord}
use Rattle.core_model.specs.Routines.{IsOtherLatch}
use Rattle.symbolic_run.specs.AbstractCell.{AbstractCell, AbstractState, AnyTagged, GivenCell, PublicNumber, TaskReg, OldSlotWord, is_tagged, abstract_cell_at}
use Rattle.symbolic_run.specs.AbstractRun.{run_of}
use Rattle.symbolic_run.specs.Concretization.{Valuation}
use Rattle.core_invariant.specs.KernelStates.{own_save, own_restore}
use Rattle.core_invariant.proofs.KernelCells.{reached, numbered, bound_cells, trapped_cells, saved_cells}
use Rattle.core_invariant.proofs.Numbered.{numbered-get, numbered-skip}
use Rattle.core_invariant.proofs.PathStates.{is_untagged}
use Rattle.core_invariant.proofs.PartSaves.{IsSavedState, RunsSave}
use Rattle.core_invariant.proofs.PartRestores.{IsRestoredState, RunsRestore}

-- where a run ends, and its start where it doesn't
abbrev end_or : AbstractState → Option AbstractState → AbstractState
end_or a None = a
end_or a (Some b) = b

-- an item of numbered registers, after a first one and before others
task-reg : (first : AbstractCell) (rest : List AbstractCell) (i : ℕ) → 1 ≤ i → i < 32
    → get_or (first ∷ numbered TaskReg 1 31 ++ rest) i AnyTagged ≡ TaskReg i
task-reg first rest zero low high = absurd (omega arith)
task-reg first rest (suc i) low high =
    let same : 1 + i ≡ suc i = omega arith in
    numbered-get TaskReg 1 31 rest i AnyTagged (omega arith) ∙ ap TaskReg same

-- an item of untagged ones
untagged-item : (cells : List AbstractCell) (i : ℕ) → list_all is_untagged cells ≡ true → i < length cells
    → is_tagged (get_or cells i AnyTagged) ≡ false
untagged-item cells i all low =
    not-true (is_tagged (get_or cells i AnyTagged))
    (All-get_or (λ a. is_untagged a ≡ true) cells i AnyTagged low (AllPass-from_list_all is_untagged cells all))

module _ (s : Valuation) where
  abbrev saved_end : AbstractState
  saved_end = end_or (trapped_cells s) (run_of reached own_save (trapped_cells s))

  save-runs : run_of reached own_save (trapped_cells s) ≡ Some saved_end
  save-runs = refl

  -- the words of the slot
  slot-end : saved_end.slot ≡ GivenCell ∷ numbered TaskReg 1 31 ++ bound_cells s.task
  slot-end = refl

  slot-others : (i : ℕ) → (i ≡ 0) ⊎ (32 ≤ i) → get_or saved_end.slot i AnyTagged ≡ get_or (trapped_cells s).slot i AnyTagged
  slot-others i (inl is) =
      let P : ℕ → Type 0 = λ j. get_or saved_end.slot j AnyTagged ≡ get_or (trapped_cells s).slot j AnyTagged in
      subst P (sym is) refl
  slot-others i (inr high) =
      let same : suc (31 + (i - 32)) ≡ i = omega (arith, high) in
      let P : ℕ → Type 0 = λ j. get_or saved_end.slot j AnyTagged ≡ get_or (trapped_cells s).slot j AnyTagged in
      subst P same
      (numbered-skip TaskReg 1 31 (bound_cells s.task) (i - 32) AnyTagged
      ∙ sym (numbered-skip OldSlotWord 1 31 (bound_cells s.task) (i - 32) AnyTagged))

  -- the latches
  registers-end : (i : ℕ) → 1 ≤ i → i < 32 → is_tagged (abstract_cell_at saved_end (Reg i)) ≡ false
  registers-end zero low high = absurd (omega arith)
  registers-end (suc i) low high = untagged-item (drop 1 saved_end.regs) i refl (omega (arith, high))

  latches-end : (q : Place) → IsOtherLatch q → is_tagged (abstract_cell_at saved_end q) ≡ false
  latches-end (Reg i) other = absurd other
  latches-end (SlotWord i) other = absurd other
  latches-end (DataWord i) other = absurd other
  latches-end q other = refl

  save-end : IsSavedState (trapped_cells s) saved_end
  save-end = record {
    saved = λ i low high. ap (λ cells. get_or cells i AnyTagged) slot-end ∙ task-reg GivenCell (bound_cells s.task) i low high;
    others = slot-others;
    slot_len = refl;
    x5 = refl;
    scratch = refl;
    registers = registers-end;
    latches = latches-end;
  }

pub own-saves : RunsSave own_save
own-saves = record { few = omega arith; ends = λ s. (saved_end s, save-runs s, save-end s) }

module _ (s : Valuation) (pc : ℕ) where
  abbrev restored_end : AbstractState
  restored_end = end_or (saved_cells s (PublicNumber pc)) (run_of reached own_restore (saved_cells s (PublicNumber pc)))

  restore-runs : run_of reached own_restore (saved_cells s (PublicNumber pc)) ≡ Some restored_end
  restore-runs = refl

  regs-restored : drop 1 restored_end.regs ≡ numbered TaskReg 1 31 ++ []
  regs-restored = refl

  register-restored : (i : ℕ) → 1 ≤ i → i < 32 → abstract_cell_at restored_end (Reg i) ≡ TaskReg i
  register-restored zero low high = absurd (omega arith)
  register-restored (suc i) low high =
      ap (λ cells. get_or cells i AnyTagged) regs-restored ∙ task-reg AnyTagged [] (suc i) low high

  latches-restored : (q : Place) → IsOtherLatch q → is_tagged (abstract_cell_at restored_end q) ≡ false
  latches-restored (Reg i) other = absurd other
  latches-restored (SlotWord i) other = absurd other
  latches-restored (DataWord i) other = absurd other
  latches-restored q other = refl

  restore-end : IsRestoredState (saved_cells s (PublicNumber pc)) restored_end
  restore-end = record { registers = register-restored; slot = refl; scratch = refl; latches = latches-restored }

pub own-restores : RunsRestore own_restore
own-restores = record { few = omega arith; ends = λ s pc. (restored_end s pc, restore-runs s pc, restore-end s pc) }
