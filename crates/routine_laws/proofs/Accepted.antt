-- Words that break no rule save, and restore.
use Rattle.std.proofs.Common.{◌≡◌, inl, inr, ℕ, zero, suc, ◌+◌, ◌≤◌, false, List, ◌∷◌, ◌++◌, map, get_or, replicate, refl, sym, ap, subst, ◌∙◌, arith}
use Rattle.std.proofs.lemmas.List.{ext_get_or}
use Rattle.hart_model.specs.declared.place.Place.{Place}
use Rattle.hart_model.specs.declared.place.Place.TheVariants.{Reg, SlotWord, DataWord}
use Rattle.core_model.specs.KernelText.{numbers_from}
use Rattle.core_model.specs.Routines.{Saves, Restores, IsOtherLatch}
use Rattle.symbolic_run.proofs.OneWrite.{IsSpokenOf}
use Rattle.symbolic_run.specs.AbstractCell.{AbstractCell, AbstractState, AnyTagged, SlotAddress, PublicNumber, TaskReg, is_tagged, abstract_cell_at}
use Rattle.symbolic_run.specs.AbstractCell as cells
use Rattle.symbolic_run.specs.Concretization.{Valuation}
use Rattle.core_invariant.proofs.KernelCells.{numbered, bound_cells, kernel_regs, trapped_cells, saved_cells}
use Rattle.core_invariant.proofs.Numbered.{numbered-get}
use Rattle.core_invariant.proofs.PartSaves.{IsSavedState, RunsSave}
use Rattle.core_invariant.proofs.PartRestores.{IsRestoredState, RunsRestore}
use Rattle.noninterference.proofs.PartsAlike.{words-save, words-restore}
use native.Mathlib.Decide.{dec_le}
use Rattle.routine_laws.specs.declared.content.Content.{Content}
use Rattle.routine_laws.specs.Contents.{Contents, content_at, register}
use Rattle.routine_laws.specs.declared.content.Content.TheVariants as contents
use Rattle.routine_laws.specs.Contents as known
use Rattle.routine_laws.specs.Accepted.{at_save, at_restore, AreLatchesUntagged, IsSavedEnd, IsRestoredEnd, IsSaveAccepted, IsRestoreAccepted}
use Rattle.routine_laws.proofs.Fits.{Fits, AllFit, FitState, fit-at, fits-untagged, fit-numbered}
use Rattle.routine_laws.proofs.Words.{IsFollowedRun, followed-run}

-- what isn't known as tagged in a place is untagged there
untagged-at : (c : Contents) (b : AbstractState) (p : Place) → IsSpokenOf p → FitState c b → known.is_tagged (content_at c p) ≡ false
    → is_tagged (abstract_cell_at b p) ≡ false
untagged-at c b p spoken f e = fits-untagged (content_at c p) (abstract_cell_at b p) e (fit-at c b p spoken f)

other-untagged : (c : Contents) (b : AbstractState) → FitState c b → AreLatchesUntagged c → (p : Place) → IsOtherLatch p
    → is_tagged (abstract_cell_at b p) ≡ false
other-untagged c b f latches (Reg i) is = absurd is
other-untagged c b f latches (SlotWord i) is = absurd is
other-untagged c b f latches (DataWord i) is = absurd is
other-untagged c b f latches p is = untagged-at c b p tt f (latches p tt)

-- what is named is so
named : (k j : Content) (x : AbstractCell) → k ≡ j → Fits k x → Fits j x
named k j x e f = subst (λ (l : Content). Fits l x) e f

-- where a save part begins, the contents say what is known of a trapped task
save-start : (s : Valuation) → FitState at_save (trapped_cells s)
save-start s = record {
  regs = (tt, with-nothing contents.TaskReg cells.TaskReg 1 31 (λ i. refl));
  port_a = tt;
  port_b = tt;
  res = tt;
  load = tt;
  store = tt;
  scr = refl;
  mul = tt;
  zero = refl;
  slot = (
    tt,
    fit-numbered contents.OldSlotWord cells.OldSlotWord 1 31 (replicate 4 contents.Unknown) (bound_cells s.task) (λ i. refl)
        (tt, (tt, (tt, (tt, tt)))),
  );
}
  where
    with-nothing : (content : ℕ → Content) (cell : ℕ → AbstractCell) (first more : ℕ) → ((i : ℕ) → Fits (content i) (cell i))
        → AllFit (map content (numbers_from first more)) (numbered cell first more)
    with-nothing content cell first zero each = tt
    with-nothing content cell first (suc more) each = (each first, with-nothing content cell (first + 1) more each)

restore-start : (s : Valuation) (pc : ℕ) → FitState at_restore (saved_cells s (PublicNumber pc))
restore-start s pc = record {
  regs = regs-fit;
  port_a = refl;
  port_b = refl;
  res = refl;
  load = refl;
  store = refl;
  scr = refl;
  mul = refl;
  zero = refl;
  slot = (
    refl,
    fit-numbered contents.TaskReg cells.TaskReg 1 31 (replicate 4 contents.Public) (bound_cells s.task) (λ i. refl)
        (refl, (refl, (refl, (refl, tt)))),
  );
}
  where
    public-fit : (n : ℕ) (ks : List Content) (xs : List AbstractCell) → AllFit ks xs
        → AllFit (replicate n contents.Public ++ ks) (replicate n cells.PublicAny ++ xs)
    public-fit zero ks xs f = f
    public-fit (suc n) ks xs f = (refl, public-fit n ks xs f)

    all-public : (n : ℕ) → AllFit (replicate n contents.Public) (replicate n cells.PublicAny)
    all-public zero = tt
    all-public (suc n) = (refl, all-public n)

    regs-fit : AllFit (replicate 5 contents.Public ++ contents.SlotAddress ∷ replicate 26 contents.Public) kernel_regs
    regs-fit =
        public-fit 5 (contents.SlotAddress ∷ replicate 26 contents.Public) (cells.SlotAddress ∷ replicate 26 cells.PublicAny) (refl, all-public 26)

-- the end of a save part
saved-end : (s : Valuation) (left : Contents) (words : List ℕ) (r : IsFollowedRun words (trapped_cells s) left) → IsSavedEnd left
    → IsSavedState (trapped_cells s) r.cells_left
saved-end s left words r end = record {
  saved = λ i low high. named (content_at left (SlotWord i)) (contents.TaskReg i) (abstract_cell_at r.cells_left (SlotWord i)) (end.saved i low high)
      (fit-at left r.cells_left (SlotWord i) tt r.fit);
  others = r.stays.others;
  slot_len = r.stays.slot_len;
  x5 = named (register left 5) contents.SlotAddress (abstract_cell_at r.cells_left (Reg 5)) end.x5 (fit-at left r.cells_left (Reg 5) tt r.fit);
  scratch = named left.scr contents.SlotAddress r.cells_left.scr end.scratch r.fit.scr;
  registers = λ i low high. untagged-at left r.cells_left (Reg i) tt r.fit (end.registers i low high);
  latches = other-untagged left r.cells_left r.fit end.latches;
}

runs-save : (words : List ℕ) → IsSaveAccepted words → RunsSave words
runs-save words ok =
    let r : (s : Valuation) → IsFollowedRun words (trapped_cells s) ok.left =
    λ s. followed-run 0 words at_save ok.left (trapped_cells s) (save-start s) ok.leaves in
    record {
      few = ok.few;
      ends = λ s. ((r s).cells_left, (r s).run_is, saved-end s ok.left words (r s) ok.end);
    }

pub save-accepted : (words : List ℕ) → IsSaveAccepted words → Saves words
save-accepted words ok = words-save words (runs-save words ok)

-- the end of a restore part: the words of the slot are the task's again, and the others are as before
same-slot : (s : Valuation) (pc : ℕ) (left : Contents) (words : List ℕ) (r : IsFollowedRun words (saved_cells s (PublicNumber pc)) left)
    → IsRestoredEnd left → r.cells_left.slot ≡ (saved_cells s (PublicNumber pc)).slot
same-slot s pc left words r end =
    ext_get_or AnyTagged r.cells_left.slot (saved_cells s (PublicNumber pc)).slot r.stays.slot_len (λ k low. by k (dec_le 32 k))
  where
    by : (k : ℕ) → Dec (32 ≤ k) → get_or r.cells_left.slot k AnyTagged ≡ get_or (saved_cells s (PublicNumber pc)).slot k AnyTagged
    by k (yes high) = r.stays.others k (inr high)
    by zero (no low) = r.stays.others 0 (inl refl)
    by (suc k) (no low) =
        let same : 1 + k ≡ suc k = omega arith in
        named (content_at left (SlotWord (suc k))) (contents.TaskReg (suc k)) (abstract_cell_at r.cells_left (SlotWord (suc k)))
        (end.saved (suc k) (omega arith) (omega arith)) (fit-at left r.cells_left (SlotWord (suc k)) tt r.fit)
        ∙ sym (numbered-get TaskReg 1 31 (bound_cells s.task) k AnyTagged (omega arith) ∙ ap TaskReg same)

restored-end : (s : Valuation) (pc : ℕ) (left : Contents) (words : List ℕ) (r : IsFollowedRun words (saved_cells s (PublicNumber pc)) left)
    → IsRestoredEnd left → IsRestoredState (saved_cells s (PublicNumber pc)) r.cells_left
restored-end s pc left words r end = record {
  registers = λ i low high. named (register left i) (contents.TaskReg i) (abstract_cell_at r.cells_left (Reg i)) (end.registers i low high)
      (fit-at left r.cells_left (Reg i) tt r.fit);
  slot = same-slot s pc left words r end;
  scratch = named left.scr contents.SlotAddress r.cells_left.scr end.scratch r.fit.scr;
  latches = other-untagged left r.cells_left r.fit end.latches;
}

runs-restore : (at : ℕ) (words : List ℕ) → IsRestoreAccepted at words → RunsRestore words
runs-restore at words ok =
    let r : (s : Valuation) (pc : ℕ) → IsFollowedRun words (saved_cells s (PublicNumber pc)) ok.left =
    λ s pc. followed-run at words at_restore ok.left (saved_cells s (PublicNumber pc)) (restore-start s pc) ok.leaves in
    record {
      few = ok.few;
      ends = λ s pc. ((r s pc).cells_left, (r s pc).run_is, restored-end s pc ok.left words (r s pc) ok.end);
    }

pub restore-accepted : (at : ℕ) (words : List ℕ) → IsRestoreAccepted at words → Restores words
restore-accepted at words ok = words-restore words (runs-restore at words ok)
