-- What a content says of an abstract cell.
use Rattle.std.proofs.Common.{◌≡◌, ℕ, zero, suc, ◌+◌, false, List, [], ◌∷◌, ◌++◌, map, get_or, set, refl, ap}
use Rattle.hart_model.specs.declared.place.Place.{Place}
use Rattle.hart_model.specs.declared.place.Place.TheVariants.{Reg, PortA, PortB, Res, Load, Store, Scr, Mul, Zero, SlotWord, DataWord}
use Rattle.hart_model.specs.Cells.{with_cell}
use Rattle.symbolic_run.specs.AbstractCell.{AbstractCell, AbstractState, abstract_cell_at}
use Rattle.symbolic_run.specs.AbstractCell as cells
use Rattle.symbolic_run.proofs.OneWrite.{IsSpokenOf}
use Rattle.core_model.specs.KernelText.{numbers_from}
use Rattle.core_invariant.proofs.KernelCells.{numbered}
use Rattle.routine_laws.specs.declared.content.Content.{Content}
use Rattle.routine_laws.specs.Contents.{Contents, is_tagged, content_at}
use Rattle.routine_laws.specs.declared.content.Content.TheVariants as contents

-- The abstract cell is the one that is named, or a public one, or any.
abbrev pub Fits : Content → AbstractCell → Type 0
Fits contents.Zero x = x ≡ cells.Zero
Fits contents.SlotAddress x = x ≡ cells.SlotAddress
Fits contents.Public x = cells.is_tagged x ≡ false
Fits (contents.TaskReg number) x = x ≡ cells.TaskReg number
Fits (contents.OldSlotWord index) x = x ≡ cells.OldSlotWord index
Fits contents.Unknown x = Unit {0}

-- what isn't known as tagged is untagged
pub fits-untagged : (k : Content) (x : AbstractCell) → is_tagged k ≡ false → Fits k x → cells.is_tagged x ≡ false
fits-untagged contents.Zero x e f = ap cells.is_tagged f
fits-untagged contents.SlotAddress x e f = ap cells.is_tagged f
fits-untagged contents.Public x e f = f
fits-untagged (contents.TaskReg number) x e f = absurd (cc e)
fits-untagged (contents.OldSlotWord index) x e f = absurd (cc e)
fits-untagged contents.Unknown x e f = absurd (cc e)

-- contents in a row say so of as many cells
abbrev pub AllFit : List Content → List AbstractCell → Type 0
AllFit [] [] = Unit {0}
AllFit [] (x ∷ xs) = ⊥
AllFit (k ∷ ks) [] = ⊥
AllFit (k ∷ ks) (x ∷ xs) = Fits k x × AllFit ks xs

pub fit-get : (ks : List Content) (xs : List AbstractCell) (i : ℕ) → AllFit ks xs → Fits (get_or ks i contents.Unknown) (get_or xs i cells.AnyTagged)
fit-get [] [] i f = tt
fit-get [] (x ∷ xs) i f = absurd f
fit-get (k ∷ ks) [] i f = absurd f
fit-get (k ∷ ks) (x ∷ xs) zero f = f.0
fit-get (k ∷ ks) (x ∷ xs) (suc i) f = fit-get ks xs i f.1

pub fit-set : (ks : List Content) (xs : List AbstractCell) (i : ℕ) (k : Content) (x : AbstractCell) → AllFit ks xs → Fits k x
    → AllFit (set ks i k) (set xs i x)
fit-set [] [] i k x f new = tt
fit-set [] (y ∷ xs) i k x f new = absurd f
fit-set (l ∷ ks) [] i k x f new = absurd f
fit-set (l ∷ ks) (y ∷ xs) zero k x f new = (new, f.1)
fit-set (l ∷ ks) (y ∷ xs) (suc i) k x f new = (f.0, fit-set ks xs i k x f.1 new)

-- of each latch and each word of the slot
pub record FitState (c : Contents) (a : AbstractState) : Type 0 where
  pub regs : AllFit c.regs a.regs
  pub port_a : Fits c.port_a a.port_a
  pub port_b : Fits c.port_b a.port_b
  pub res : Fits c.res a.res
  pub load : Fits c.load a.load
  pub store : Fits c.store a.store
  pub scr : Fits c.scr a.scr
  pub mul : Fits c.mul a.mul
  pub zero : Fits c.zero a.zero
  pub slot : AllFit c.slot a.slot

pub fit-at : (c : Contents) (a : AbstractState) (p : Place) → IsSpokenOf p → FitState c a → Fits (content_at c p) (abstract_cell_at a p)
fit-at c a (Reg zero) ok f = refl
fit-at c a (Reg (suc r)) ok f = fit-get c.regs a.regs (suc r) f.regs
fit-at c a PortA ok f = f.port_a
fit-at c a PortB ok f = f.port_b
fit-at c a Res ok f = f.res
fit-at c a Load ok f = f.load
fit-at c a Store ok f = f.store
fit-at c a Scr ok f = f.scr
fit-at c a Mul ok f = f.mul
fit-at c a Zero ok f = f.zero
fit-at c a (SlotWord i) ok f = fit-get c.slot a.slot i f.slot
fit-at c a (DataWord i) ok f = absurd ok

-- after a write of what fits
fit-parts : (c : Contents) (a : AbstractState) → AllFit c.regs a.regs → Fits c.port_a a.port_a → Fits c.port_b a.port_b → Fits c.res a.res
    → Fits c.load a.load → Fits c.store a.store → Fits c.scr a.scr → Fits c.mul a.mul → Fits c.zero a.zero → AllFit c.slot a.slot → FitState c a
fit-parts c a f1 f2 f3 f4 f5 f6 f7 f8 f9 f10 =
    record { regs = f1; port_a = f2; port_b = f3; res = f4; load = f5; store = f6; scr = f7; mul = f8; zero = f9; slot = f10 }

pub fit-with : (c : Contents) (a : AbstractState) (p : Place) (k : Content) (x : AbstractCell) → IsSpokenOf p → FitState c a → Fits k x
    → FitState (with_cell c p k) (with_cell a p x)
fit-with c a (Reg r) k x ok f new =
    fit-parts _ _ (fit-set c.regs a.regs r k x f.regs new) f.port_a f.port_b f.res f.load f.store f.scr f.mul f.zero f.slot
fit-with c a PortA k x ok f new = fit-parts _ _ f.regs new f.port_b f.res f.load f.store f.scr f.mul f.zero f.slot
fit-with c a PortB k x ok f new = fit-parts _ _ f.regs f.port_a new f.res f.load f.store f.scr f.mul f.zero f.slot
fit-with c a Res k x ok f new = fit-parts _ _ f.regs f.port_a f.port_b new f.load f.store f.scr f.mul f.zero f.slot
fit-with c a Load k x ok f new = fit-parts _ _ f.regs f.port_a f.port_b f.res new f.store f.scr f.mul f.zero f.slot
fit-with c a Store k x ok f new = fit-parts _ _ f.regs f.port_a f.port_b f.res f.load new f.scr f.mul f.zero f.slot
fit-with c a Scr k x ok f new = fit-parts _ _ f.regs f.port_a f.port_b f.res f.load f.store new f.mul f.zero f.slot
fit-with c a Mul k x ok f new = fit-parts _ _ f.regs f.port_a f.port_b f.res f.load f.store f.scr new f.zero f.slot
fit-with c a Zero k x ok f new = fit-parts _ _ f.regs f.port_a f.port_b f.res f.load f.store f.scr f.mul new f.slot
fit-with c a (SlotWord i) k x ok f new =
    fit-parts _ _ f.regs f.port_a f.port_b f.res f.load f.store f.scr f.mul f.zero (fit-set c.slot a.slot i k x f.slot new)
fit-with c a (DataWord i) k x ok f new = absurd ok

-- rows by their numbers, and what follows them
pub fit-numbered : (content : ℕ → Content) (cell : ℕ → AbstractCell) (first more : ℕ) (ks : List Content) (xs : List AbstractCell)
    → ((i : ℕ) → Fits (content i) (cell i)) → AllFit ks xs → AllFit (map content (numbers_from first more) ++ ks) (numbered cell first more ++ xs)
fit-numbered content cell first zero ks xs each rest = rest
fit-numbered content cell first (suc more) ks xs each rest = (each first, fit-numbered content cell (first + 1) more ks xs each rest)
