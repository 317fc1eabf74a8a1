-- Writes that are allowed on the abstract cells keep what these say, and their entries are explained.
use Rattle.std.proofs.Common.{◌≡◌, ℕ, ◌⊎◌, inl, inr, Bool, true, false, ◌&&◌, not, List, [], ◌∷◌, Option, Some, refl, sym, ap, subst}
use Rattle.std.proofs.lemmas.List.Elements.{All-nil, All-cons}
use Rattle.isa_model.specs.declared.task.Task.{Task}
use Rattle.isa_model.specs.declared.latch.Latch.{Latch}
use Rattle.hart_model.specs.declared.place.Place.{Place}
use Rattle.hart_model.specs.declared.place.Place.TheVariants.{Reg, PortA, PortB, Res, Load, Store, Scr, Mul, Zero, SlotWord, DataWord}
use Rattle.hart_model.specs.declared.tag.Cell.{Cell}
use Rattle.hart_model.specs.declared.tag.Mode.{Mode}
use Rattle.hart_model.specs.declared.tag.Tag.{Tag}
use Rattle.hart_model.specs.declared.tag.Tag.TheVariants.{Public, Of, Many}
use Rattle.hart_model.specs.Cells.{with_cell, latch_of}
use Rattle.hart_model.specs.Probes.{probe_of}
use Rattle.hart_model.specs.HartState.{HartState, cells_of, bases_of, hart_cell, hart_with_cell}
use Rattle.hart_model.specs.Writes.{CellWrite, probe_of_write, after_writes}
use Rattle.core_model.specs.Explained.{IsExplained}
use Rattle.core_model.specs.Soundness.{IsAsTagged}
use Rattle.symbolic_run.specs.AbstractCell.{AbstractCell, AbstractState, SlotAddress, PublicAny, PublicNumber, TaskReg, OldSlotWord, GivenCell, AnyTagged, is_tagged, is_zero, abstract_cell_at}
use Rattle.symbolic_run.specs.AbstractCell as abstract
use Rattle.symbolic_run.specs.AbstractEffect.{AbstractWrite}
use Rattle.symbolic_run.specs.AbstractRun.{is_allowed, if_allowed}
use Rattle.symbolic_run.specs.AbstractRun as run
use Rattle.symbolic_run.specs.Concretization.{Valuation, IsSound, Denotes, IsDenotedBy}
use Rattle.symbolic_run.specs.Writes.{WritesDenote, IsDoneBy}
use Rattle.symbolic_run.proofs.OneWrite.{IsSpokenOf, denoted-truthful, denoted-public, cell-denoted, hart-write-denoted}

-- an entry with a public side is explained
explained-tags : (tasks : List Task) (hart pc : ℕ) (mode : Mode) (l : Latch) (v w : ℕ) (a b : Tag) → IsAsTagged tasks v a → IsAsTagged tasks w b →
    (a ≡ Public) ⊎ (b ≡ Public) →
    IsExplained tasks (probe_of hart pc mode l (record { value = v; tag = a }) (record { value = w; tag = b }))
explained-tags tasks hart pc mode l v w Public Public ta tb side = tt
explained-tags tasks hart pc mode l v w Public (Of t n k) ta tb side = tb
explained-tags tasks hart pc mode l v w Public Many ta tb side = absurd tb
explained-tags tasks hart pc mode l v w (Of t n k) Public ta tb side = ta
explained-tags tasks hart pc mode l v w (Of t n k) (Of u m j) ta tb (inl e) = absurd (cc e)
explained-tags tasks hart pc mode l v w (Of t n k) (Of u m j) ta tb (inr e) = absurd (cc e)
explained-tags tasks hart pc mode l v w (Of t n k) Many ta tb side = absurd tb
explained-tags tasks hart pc mode l v w Many b ta tb side = absurd ta

-- one side of a write that is allowed is public
one_side : (x y : Bool) → not (x && y) ≡ true → (x ≡ false) ⊎ (y ≡ false)
one_side true true e = absurd (cc e)
one_side true false e = inr refl
one_side false y e = inl refl

zero-public : (a : AbstractCell) → is_zero a ≡ true → is_tagged a ≡ false
zero-public abstract.Zero e = refl
zero-public SlotAddress e = absurd (cc e)
zero-public PublicAny e = absurd (cc e)
zero-public (PublicNumber value) e = absurd (cc e)
zero-public (TaskReg number) e = absurd (cc e)
zero-public (OldSlotWord index) e = absurd (cc e)
zero-public GivenCell e = absurd (cc e)
zero-public AnyTagged e = absurd (cc e)

allowed-side : (place : Place) (old new : AbstractCell) → is_allowed place old new ≡ true → (is_tagged old ≡ false) ⊎ (is_tagged new ≡ false)
allowed-side Zero old new e = inr (zero-public new e)
allowed-side (DataWord i) old new e = absurd (cc e)
allowed-side (Reg r) old new e = one_side (is_tagged old) (is_tagged new) e
allowed-side PortA old new e = one_side (is_tagged old) (is_tagged new) e
allowed-side PortB old new e = one_side (is_tagged old) (is_tagged new) e
allowed-side Res old new e = one_side (is_tagged old) (is_tagged new) e
allowed-side Load old new e = one_side (is_tagged old) (is_tagged new) e
allowed-side Store old new e = one_side (is_tagged old) (is_tagged new) e
allowed-side Scr old new e = one_side (is_tagged old) (is_tagged new) e
allowed-side Mul old new e = one_side (is_tagged old) (is_tagged new) e
allowed-side (SlotWord i) old new e = one_side (is_tagged old) (is_tagged new) e

allowed-spoken : (place : Place) (old new : AbstractCell) → is_allowed place old new ≡ true → IsSpokenOf place
allowed-spoken Zero old new e = tt
allowed-spoken (DataWord i) old new e = absurd (cc e)
allowed-spoken (Reg r) old new e = tt
allowed-spoken PortA old new e = tt
allowed-spoken PortB old new e = tt
allowed-spoken Res old new e = tt
allowed-spoken Load old new e = tt
allowed-spoken Store old new e = tt
allowed-spoken Scr old new e = tt
allowed-spoken Mul old new e = tt
allowed-spoken (SlotWord i) old new e = tt

module _ (s : Valuation) (ok : IsSound s) where
  pub explained-write : (a : AbstractState) (h : HartState) (place : Place) (new : AbstractCell) (c : Cell) → IsDenotedBy s a (cells_of h) → Denotes s new c →
      is_allowed place (abstract_cell_at a place) new ≡ true → IsExplained s.tasks (probe_of_write h (record { at = place; cell = c }))
  explained-write a h place new c d t e =
      let old = cell-denoted s a h place (allowed-spoken place (abstract_cell_at a place) new e) d in
      explained-tags s.tasks h.csrs.hart h.pc h.csrs.mode (latch_of (bases_of h.held) place) (hart_cell h place).value c.value (hart_cell h place).tag c.tag
      (denoted-truthful s ok (abstract_cell_at a place) (hart_cell h place) old)
      (denoted-truthful s ok new c t)
      (sides old (allowed-side place (abstract_cell_at a place) new e))
    where
      sides : Denotes s (abstract_cell_at a place) (hart_cell h place) → (is_tagged (abstract_cell_at a place) ≡ false) ⊎ (is_tagged new ≡ false) →
          ((hart_cell h place).tag ≡ Public) ⊎ (c.tag ≡ Public)
      sides old (inl u) = inl (denoted-public s (abstract_cell_at a place) (hart_cell h place) u old)
      sides old (inr u) = inr (denoted-public s new c u t)

  pub allowed-some : (b : Bool) (o : Option AbstractState) (z : AbstractState) → if_allowed b o ≡ Some z → (b ≡ true) × (o ≡ Some z)
  allowed-some true o z e = (refl, e)
  allowed-some false o z e = absurd (cc e)

  pub writes-denoted : (abstract : List AbstractWrite) (ws : List CellWrite) (a z : AbstractState) (h : HartState) → IsDenotedBy s a (cells_of h) →
      WritesDenote s abstract ws →
      run.after_writes abstract a ≡ Some z → IsDoneBy s z (after_writes ws h)
  writes-denoted [] [] a z h d w e =
      let same : a ≡ z = cc e in
      let P : AbstractState → Type 0 = λ x. IsDenotedBy s x (cells_of h) in
      record { denoted = subst P same d; explained = All-nil (IsExplained s.tasks) }
  writes-denoted [] (w ∷ ws) a z h d wd e = absurd wd
  writes-denoted (x ∷ abstract) [] a z h d wd e = absurd wd
  writes-denoted (x ∷ abstract) (w ∷ ws) a z h d wd e =
      let t = allowed-some (is_allowed x.at (abstract_cell_at a x.at) x.cell) (run.after_writes abstract (with_cell a x.at x.cell)) z e in
      let new : CellWrite = record { at = x.at; cell = w.cell } in
      let at : Place → CellWrite = λ p. record { at = p; cell = w.cell } in
      let same : w ≡ new = ap at wd.0 in
      let now : HartState = hart_with_cell h x.at w.cell in
      let rest = writes-denoted abstract ws (with_cell a x.at x.cell) z now (hart-write-denoted s a h x.at x.cell w.cell d wd.1) wd.2 t.1 in
      let P : CellWrite → Type 0 = λ y. IsDoneBy s z (after_writes (y ∷ ws) h) in
      let first = explained-write a h x.at x.cell w.cell d wd.1 t.0 in
      subst P (sym same) (record {
        denoted = rest.denoted;
        explained = All-cons (IsExplained s.tasks) (probe_of_write h new) (after_writes ws now).probes first rest.explained;
      })
