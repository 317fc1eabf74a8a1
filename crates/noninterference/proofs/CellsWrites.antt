-- Writes that are alike leave harts alike, and entries that agree publicly.
use Rattle.std.proofs.Common.{◌≡◌, ℕ, zero, suc, Bool, true, false, List, [], ◌∷◌, refl, subst, ap, ◌&&◌, ◌==◌, nat_le}
use Rattle.isa_model.specs.declared.latch.Latch.{Latch}
use Rattle.isa_model.specs.LatchOrder.{same_latch}
use Rattle.hart_model.specs.declared.place.Place.{Place}
use Rattle.hart_model.specs.declared.tag.Cell.{Cell}
use Rattle.hart_model.specs.declared.tag.Tag.{Tag}
use Rattle.hart_model.specs.declared.tag.Tag.TheVariants.{Public, Of, Many}
use Rattle.hart_model.specs.declared.tag.Mode.{Mode}
use Rattle.hart_model.specs.declared.tag.Mode.TheVariants.{User, Machine}
use Rattle.hart_model.specs.declared.probe.Probe.{Probe}
use Rattle.hart_model.specs.Cells.{Bases, latch_of}
use Rattle.hart_model.specs.Csrs.{CsrFile}
use Rattle.hart_model.specs.Why.{why_of, step_or_unexplained}
use Rattle.hart_model.specs.HartState.{HartState, bases_of, hart_cell, hart_with_cell}
use Rattle.hart_model.specs.Writes.{CellWrite, probe_of_write, after_writes}
use Rattle.core_model.specs.LowEquivalence.{ArePairwise, AreValuesAlike, AgreesPublicly}
use Rattle.core_model.specs.AlikeHarts.{AreCellsAlike, AreHartsAlike}
use Rattle.noninterference.specs.AlikeSteps.{AreWritesAlike, AreLeftAlike}
use Rattle.noninterference.proofs.CellsHarts.{cell-alike, bases-alike, with-cell-alike}

-- the values that a why leaves public are equal where those of public tags are
step-values : (p q : Probe) (b : Bool) (task n : ℕ) (l : Latch) → AreValuesAlike p q (step_or_unexplained b task n l)
step-values p q true task n l = tt
step-values p q false task n l = tt

values-alike : (p q : Probe) (mode : Mode) (l : Latch) (a b : Tag) → (a ≡ Public → p.was ≡ q.was) → (b ≡ Public → p.now ≡ q.now)
    → AreValuesAlike p q (why_of mode l a b)
values-alike p q mode l Public Public f g = (f refl, g refl)
values-alike p q mode l Public (Of task n k) f g = f refl
values-alike p q mode l Public Many f g = tt
values-alike p q mode l (Of task n k) Public f g = g refl
values-alike p q User l (Of task m k) (Of other zero j) f g = tt
values-alike p q User l (Of task m k) (Of other (suc n) j) f g =
    step-values p q ((task == other) && same_latch k l && same_latch j l && nat_le m n) task n l
values-alike p q Machine l (Of task m k) (Of other n j) f g = tt
values-alike p q mode l (Of task m k) Many f g = tt
values-alike p q mode l Many b f g = tt

-- the file's number and mode
pub modes-alike : (h g : HartState) → AreHartsAlike h g → h.csrs.mode ≡ g.csrs.mode
modes-alike h g a = ap (λ (f : CsrFile). f.mode) a.csrs.others

numbers-alike : (h g : HartState) → AreHartsAlike h g → h.csrs.hart ≡ g.csrs.hart
numbers-alike h g a = ap (λ (f : CsrFile). f.hart) a.csrs.others

-- the entries of one write on both
pub probe-alike : (h g : HartState) (p : Place) (c d : Cell) → AreHartsAlike h g → AreCellsAlike c d
    → AgreesPublicly (probe_of_write h (record { at = p; cell = c })) (probe_of_write g (record { at = p; cell = d }))
probe-alike h g p c d a s =
    let l = cell-alike h g p a in
    let was = l.tag in
    let now = s.tag in
    let mode = modes-alike h g a in
    let latch = ap (λ (b : Bases). latch_of b p) (bases-alike h.held g.held a.held) in
    record {
      hart = numbers-alike h g a;
      pc = a.pc;
      latch = latch;
      why = rw (was, now, mode, latch) refl;
      values = values-alike (probe_of_write h (record { at = p; cell = c })) (probe_of_write g (record { at = p; cell = d })) h.csrs.mode
          (latch_of (bases_of h.held) p) (hart_cell h p).tag c.tag l.value s.value;
    }

-- all writes of two lists that are alike
pub writes-leave-alike : (ws vs : List CellWrite) (h g : HartState) → ArePairwise AreWritesAlike ws vs → AreHartsAlike h g
    → AreLeftAlike (after_writes ws h) (after_writes vs g)
writes-leave-alike [] [] h g p a = record { harts = a; probes = tt }
writes-leave-alike [] (v ∷ vs) h g p a = absurd p
writes-leave-alike (w ∷ ws) [] h g p a = absurd p
writes-leave-alike (w ∷ ws) (v ∷ vs) h g p a =
    let P : Place → Type 0 = λ at. AreLeftAlike (after_writes (w ∷ ws) h) (after_writes (record { at = at; cell = v.cell } ∷ vs) g) in
    let rest = writes-leave-alike ws vs (hart_with_cell h w.at w.cell) (hart_with_cell g w.at v.cell) p.1 (with-cell-alike h g w.cell v.cell a p.0.cell w.at) in
    subst P p.0.at (record { harts = rest.harts; probes = (probe-alike h g w.at w.cell v.cell a p.0.cell, rest.probes) })
