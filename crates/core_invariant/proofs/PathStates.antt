-- What is so of a hart of which a path's state speaks: its latches, the words of its slot, its CSRs and what it holds.
use Rattle.std.proofs.Common.{◌≡◌, ℕ, zero, suc, ◌+◌, ◌*◌, Bool, true, not, ◌&&◌, List, [], ◌∷◌, length, get_or, Option, Some, refl, sym, ap, subst, ◌∙◌}
use Rattle.std.specs.List.{list_all}
use Rattle.std.proofs.lemmas.Bool.{and_parts, not-true}
use Rattle.hart_model.specs.declared.place.Place.{Place}
use Rattle.hart_model.specs.declared.place.Place.TheVariants.{Reg, PortA, PortB, Res, Load, Store, Scr, Mul, Zero, SlotWord, DataWord}
use Rattle.hart_model.specs.declared.tag.Cell.{Cell}
use Rattle.hart_model.specs.declared.tag.Tag.TheVariants.{Public}
use Rattle.hart_model.specs.Cells.{blank}
use Rattle.hart_model.specs.Context.{ContextState, slot_word}
use Rattle.hart_model.specs.HartState.{HartState, cells_of, hart_cell, held_words, held_data}
use Rattle.core_model.specs.Soundness.{IsTruthful}
use Rattle.symbolic_run.specs.AbstractCell.{AbstractCell, AbstractState, AnyTagged, is_tagged, abstract_cell_at}
use Rattle.symbolic_run.specs.Concretization.{Valuation, IsSound, Denotes, AllDenote, RegsDenote, IsDenotedBy}
use Rattle.symbolic_run.specs.SymbolicPath.{PathState, IsAsPathSays}
use Rattle.symbolic_run.proofs.OneWrite.{denoted-truthful, denoted-public, all-get, regs-get, cell-denoted}
use Rattle.symbolic_run.proofs.Denoted.{denote-lengths}
use Rattle.core_model.specs.Routines.{IsLatchPlace}
use Rattle.core_invariant.specs.CutPoints.{HasPublicLatches}

-- whether no latch of a state is known as tagged; x0 is never read
abbrev pub is_untagged : AbstractCell → Bool
is_untagged a = not (is_tagged a)

abbrev pub are_regs_public : List AbstractCell → Bool
are_regs_public [] = true
are_regs_public (a ∷ abstract) = list_all is_untagged abstract

abbrev pub are_latches_public : AbstractState → Bool
are_latches_public a =
    are_regs_public a.regs
    && (is_untagged a.port_a
    && (is_untagged a.port_b
    && (is_untagged a.res && (is_untagged a.load && (is_untagged a.store && (is_untagged a.scr && (is_untagged a.mul && is_untagged a.zero)))))))

-- a cell of a state without tags is public
untagged-public : (s : Valuation) (a : AbstractCell) (c : Cell) → is_untagged a ≡ true → Denotes s a c → c.tag ≡ Public
untagged-public s a c e d = denoted-public s a c (not-true (is_tagged a) e) d

-- each cell of a row without tags is
all-public : (s : Valuation) (abstract : List AbstractCell) (cs : List Cell) (i : ℕ) → list_all is_untagged abstract ≡ true → AllDenote s abstract cs
    → (get_or cs i blank).tag ≡ Public
all-public s [] [] i e d = refl
all-public s [] (c ∷ cs) i e d = absurd d
all-public s (a ∷ abstract) [] i e d = absurd d
all-public s (a ∷ abstract) (c ∷ cs) zero e d = untagged-public s a c ((and_parts (is_untagged a) (list_all is_untagged abstract) e).0) d.0
all-public s (a ∷ abstract) (c ∷ cs) (suc i) e d = all-public s abstract cs i ((and_parts (is_untagged a) (list_all is_untagged abstract) e).1) d.1

-- and each register but x0
regs-public : (s : Valuation) (a : AbstractState) (h : HartState) (i : ℕ) → are_regs_public a.regs ≡ true → IsDenotedBy s a (cells_of h)
    → (get_or h.regs (suc i) blank).tag ≡ Public
regs-public s a h i e d = of-lists a.regs h.regs e d.regs
  where
    of-lists : (abstract : List AbstractCell) (cs : List Cell) → are_regs_public abstract ≡ true → RegsDenote s abstract cs
        → (get_or cs (suc i) blank).tag ≡ Public
    of-lists [] [] e d = refl
    of-lists [] (c ∷ cs) e d = absurd d
    of-lists (a ∷ abstract) [] e d = absurd d
    of-lists (a ∷ abstract) (c ∷ cs) e d = all-public s abstract cs i e d

-- the nine parts of the test
pub record ArePublic (a : AbstractState) : Type 0 where
  pub regs : are_regs_public a.regs ≡ true
  pub port_a : is_untagged a.port_a ≡ true
  pub port_b : is_untagged a.port_b ≡ true
  pub res : is_untagged a.res ≡ true
  pub load : is_untagged a.load ≡ true
  pub store : is_untagged a.store ≡ true
  pub scr : is_untagged a.scr ≡ true
  pub mul : is_untagged a.mul ≡ true
  pub zero : is_untagged a.zero ≡ true

-- they hold where the test does
pub are-public : (a : AbstractState) → are_latches_public a ≡ true → ArePublic a
are-public a e =
    let r1 = (and_parts (are_regs_public a.regs) _ e).1 in
    let r2 = (and_parts (is_untagged a.port_a) _ r1).1 in
    let r3 = (and_parts (is_untagged a.port_b) _ r2).1 in
    let r4 = (and_parts (is_untagged a.res) _ r3).1 in
    let r5 = (and_parts (is_untagged a.load) _ r4).1 in
    let r6 = (and_parts (is_untagged a.store) _ r5).1 in
    let r7 = (and_parts (is_untagged a.scr) _ r6).1 in
    record {
      regs = (and_parts (are_regs_public a.regs) _ e).0;
      port_a = (and_parts (is_untagged a.port_a) _ r1).0;
      port_b = (and_parts (is_untagged a.port_b) _ r2).0;
      res = (and_parts (is_untagged a.res) _ r3).0;
      load = (and_parts (is_untagged a.load) _ r4).0;
      store = (and_parts (is_untagged a.store) _ r5).0;
      scr = (and_parts (is_untagged a.scr) _ r6).0;
      mul = (and_parts (is_untagged a.mul) (is_untagged a.zero) r7).0;
      zero = (and_parts (is_untagged a.mul) (is_untagged a.zero) r7).1;
    }

-- then each latch of a hart is public
pub latch-public : (s : Valuation) (a : AbstractState) (h : HartState) → ArePublic a → IsDenotedBy s a (cells_of h) → (q : Place) → IsLatchPlace q
    → (hart_cell h q).tag ≡ Public
latch-public s a h e d (Reg zero) ok = refl
latch-public s a h e d (Reg (suc i)) ok = regs-public s a h i e.regs d
latch-public s a h e d PortA ok = untagged-public s a.port_a h.port_a e.port_a d.port_a
latch-public s a h e d PortB ok = untagged-public s a.port_b h.port_b e.port_b d.port_b
latch-public s a h e d Res ok = untagged-public s a.res h.res e.res d.res
latch-public s a h e d Load ok = untagged-public s a.load h.load e.load d.load
latch-public s a h e d Store ok = untagged-public s a.store h.store e.store d.store
latch-public s a h e d Scr ok = untagged-public s a.scr h.csrs.mscratch e.scr d.scr
latch-public s a h e d Mul ok = untagged-public s a.mul h.mul e.mul d.mul
latch-public s a h e d Zero ok = untagged-public s a.zero h.zero_word e.zero d.zero
latch-public s a h e d (SlotWord i) ok = absurd ok
latch-public s a h e d (DataWord i) ok = absurd ok

-- a context with the words of what a hart holds
abbrev pub context_at : ContextState → HartState → ContextState
context_at c h = record c { words = held_words h.held }

module _ {s : Valuation} {number base : ℕ} {p : PathState} {h : HartState} (says : IsAsPathSays s number base p h) where
  -- what the hart holds is what the path says, with the hart's words
  abbrev pub held-context : ContextState
  held-context = context_at p.held h

  pub held-is : h.held ≡ Some held-context
  held-is = says.held

  -- the bounds in the protection's registers are those of the path
  pub bounds-are : h.csrs.pmp.addrs ≡ p.csrs.pmp.addrs
  bounds-are = ap (λ x. x.pmp.addrs) says.csrs

  -- each latch is public where none of the state is known as tagged
  pub has-public-latches : length p.csrs.pmp.addrs ≡ 4 → are_latches_public p.cells ≡ true → HasPublicLatches s.tasks number (base + 4 * p.index) h
  has-public-latches four e = record {
    mode = says.mode;
    csrs = says.csrs_sound;
    pc = says.pc;
    registers = says.registers;
    zero_word = says.zero_word;
    bound_registers = ap length bounds-are ∙ four;
    latches = latch-public s p.cells h (are-public p.cells e) says.cells;
  }

  -- each word of the slot is as the state says
  pub slot-denoted : (i : ℕ) → Denotes s (get_or p.cells.slot i AnyTagged) (slot_word held-context i)
  slot-denoted i = all-get s p.cells.slot (held_words h.held) i says.cells.slot

  -- there are as many words as in the state
  pub slot-len : length (held_words h.held) ≡ length p.cells.slot
  slot-len = denote-lengths s p.cells.slot (held_words h.held) says.cells.slot

  -- a register but x0 is as the state says
  pub register-denoted : (r : ℕ) → Denotes s (get_or p.cells.regs (suc r) AnyTagged) (hart_cell h (Reg (suc r)))
  register-denoted r = regs-get s p.cells.regs h.regs r says.cells.regs

  -- each place says the truth
  pub path-truthful : IsSound s → (q : Place) → IsTruthful s.tasks (hart_cell h q)
  path-truthful sound (DataWord i) =
      let P : Option ContextState → Type 0 = λ o. IsTruthful s.tasks (get_or (held_data o) i blank) in
      subst P (sym says.held) (says.data_words i)
  path-truthful sound (Reg r) =
      denoted-truthful s sound (abstract_cell_at p.cells (Reg r)) (hart_cell h (Reg r)) (cell-denoted s p.cells h (Reg r) tt says.cells)
  path-truthful sound PortA = denoted-truthful s sound p.cells.port_a h.port_a says.cells.port_a
  path-truthful sound PortB = denoted-truthful s sound p.cells.port_b h.port_b says.cells.port_b
  path-truthful sound Res = denoted-truthful s sound p.cells.res h.res says.cells.res
  path-truthful sound Load = denoted-truthful s sound p.cells.load h.load says.cells.load
  path-truthful sound Store = denoted-truthful s sound p.cells.store h.store says.cells.store
  path-truthful sound Scr = denoted-truthful s sound p.cells.scr h.csrs.mscratch says.cells.scr
  path-truthful sound Mul = denoted-truthful s sound p.cells.mul h.mul says.cells.mul
  path-truthful sound Zero = denoted-truthful s sound p.cells.zero h.zero_word says.cells.zero
  path-truthful sound (SlotWord i) = denoted-truthful s sound (get_or p.cells.slot i AnyTagged) (slot_word held-context i) (slot-denoted i)
