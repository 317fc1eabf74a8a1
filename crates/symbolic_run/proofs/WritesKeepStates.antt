-- What allowed writes keep of a hart, beside its cells.
use Rattle.std.proofs.Common.{◌≡◌, ℕ, true, List, [], ◌∷◌, length, Option, Some, None, refl, ap, ◌∙◌}
use Rattle.std.proofs.lemmas.List.{length-set}
use Rattle.hart_model.specs.declared.place.Place.{Place}
use Rattle.hart_model.specs.declared.place.Place.TheVariants.{Reg, PortA, PortB, Res, Load, Store, Scr, Mul, Zero, SlotWord, DataWord}
use Rattle.hart_model.specs.declared.tag.Cell.{Cell}
use Rattle.hart_model.specs.Cells.{blank, with_cell}
use Rattle.hart_model.specs.Csrs.{CsrFile}
use Rattle.hart_model.specs.Context.{ContextState}
use Rattle.hart_model.specs.HartState.{HartState, held_words, held_with_word, hart_with_cell}
use Rattle.hart_model.specs.Writes.{CellWrite, after_writes}
use Rattle.symbolic_run.specs.AbstractCell.{AbstractCell, AbstractState, SlotAddress, PublicAny, PublicNumber, TaskReg, OldSlotWord, GivenCell, AnyTagged, is_zero, abstract_cell_at}
use Rattle.symbolic_run.specs.AbstractCell as abstract
use Rattle.symbolic_run.specs.AbstractEffect.{AbstractWrite}
use Rattle.symbolic_run.specs.AbstractRun.{is_allowed}
use Rattle.symbolic_run.specs.AbstractRun as run
use Rattle.symbolic_run.specs.Concretization.{Valuation, IsSound, Denotes}
use Rattle.symbolic_run.specs.Writes.{WritesDenote}
use Rattle.symbolic_run.proofs.Writes.{allowed-some}

-- The CSRs but mscratch, what is held but the words of the slot, how many registers there are, and the word that is always 0.
pub record Keeps (h g : HartState) : Type 0 where
  pub csrs : g.csrs ≡ record h.csrs { mscratch = g.csrs.mscratch }
  pub held : (c : ContextState) → h.held ≡ Some (record c { words = held_words h.held }) → g.held ≡ Some (record c { words = held_words g.held })
  pub registers : length g.regs ≡ length h.regs
  pub zero_word : h.zero_word ≡ blank → g.zero_word ≡ blank

-- no write, and some after others
keeps-same : (h : HartState) → Keeps h h
keeps-same h = record { csrs = refl; held = λ c e. e; registers = refl; zero_word = λ e. e }

keeps-then : (h g f : HartState) → Keeps h g → Keeps g f → Keeps h f
keeps-then h g f first second = record {
  csrs = second.csrs ∙ ap (λ (c : CsrFile). record c { mscratch = f.csrs.mscratch }) first.csrs;
  held = λ c e. second.held c (first.held c e);
  registers = second.registers ∙ first.registers;
  zero_word = λ e. second.zero_word (first.zero_word e);
}

-- a written word of the slot
word-held : (i : ℕ) (cell : Cell) (c : ContextState) (o : Option ContextState) → o ≡ Some (record c { words = held_words o }) →
    held_with_word i cell o ≡ Some (record c { words = held_words (held_with_word i cell o) })
word-held i cell c None e = absurd (cc e)
word-held i cell c (Some d) e = ap (held_with_word i cell) e

-- a cell that is known as Zero
zero-blank : (s : Valuation) (a : AbstractCell) (c : Cell) → is_zero a ≡ true → Denotes s a c → c ≡ blank
zero-blank s abstract.Zero c e d = d
zero-blank s SlotAddress c e d = absurd (cc e)
zero-blank s PublicAny c e d = absurd (cc e)
zero-blank s (PublicNumber value) c e d = absurd (cc e)
zero-blank s (TaskReg number) c e d = absurd (cc e)
zero-blank s (OldSlotWord index) c e d = absurd (cc e)
zero-blank s GivenCell c e d = absurd (cc e)
zero-blank s AnyTagged c e d = absurd (cc e)

-- one write
write-keeps : (s : Valuation) (h : HartState) (place : Place) (old new : AbstractCell) (c : Cell) → is_allowed place old new ≡ true → Denotes s new c →
    Keeps h (hart_with_cell h place c)
write-keeps s h (Reg r) old new c e d = record { csrs = refl; held = λ x y. y; registers = length-set h.regs r c; zero_word = λ y. y }
write-keeps s h PortA old new c e d = record { csrs = refl; held = λ x y. y; registers = refl; zero_word = λ y. y }
write-keeps s h PortB old new c e d = record { csrs = refl; held = λ x y. y; registers = refl; zero_word = λ y. y }
write-keeps s h Res old new c e d = record { csrs = refl; held = λ x y. y; registers = refl; zero_word = λ y. y }
write-keeps s h Load old new c e d = record { csrs = refl; held = λ x y. y; registers = refl; zero_word = λ y. y }
write-keeps s h Store old new c e d = record { csrs = refl; held = λ x y. y; registers = refl; zero_word = λ y. y }
write-keeps s h Scr old new c e d = record { csrs = refl; held = λ x y. y; registers = refl; zero_word = λ y. y }
write-keeps s h Mul old new c e d = record { csrs = refl; held = λ x y. y; registers = refl; zero_word = λ y. y }
write-keeps s h Zero old new c e d = record { csrs = refl; held = λ x y. y; registers = refl; zero_word = λ y. zero-blank s new c e d }
write-keeps s h (SlotWord i) old new c e d = record { csrs = refl; held = λ x y. word-held i c x h.held y; registers = refl; zero_word = λ y. y }
write-keeps s h (DataWord i) old new c e d = absurd (cc e)

-- all writes of a step
module _ (s : Valuation) (ok : IsSound s) where
  pub writes-keep : (abstract : List AbstractWrite) (ws : List CellWrite) (a z : AbstractState) (h : HartState) → WritesDenote s abstract ws →
      run.after_writes abstract a ≡ Some z → Keeps h (after_writes ws h).hart
  writes-keep [] [] a z h w e = keeps-same h
  writes-keep [] (w ∷ ws) a z h wd e = absurd wd
  writes-keep (x ∷ abstract) [] a z h wd e = absurd wd
  writes-keep (x ∷ abstract) (w ∷ ws) a z h wd e =
      let t = allowed-some s ok (is_allowed x.at (abstract_cell_at a x.at) x.cell) (run.after_writes abstract (with_cell a x.at x.cell)) z e in
      let there : is_allowed w.at (abstract_cell_at a x.at) x.cell ≡ true = ap (λ p. is_allowed p (abstract_cell_at a x.at) x.cell) wd.0 ∙ t.0 in
      keeps-then h (hart_with_cell h w.at w.cell) (after_writes ws (hart_with_cell h w.at w.cell)).hart
      (write-keeps s h w.at (abstract_cell_at a x.at) x.cell w.cell there wd.1)
      (writes-keep abstract ws (with_cell a x.at x.cell) z (hart_with_cell h w.at w.cell) wd.2 t.1)
