-- A write of a denoted cell keeps what an abstract state says; what it says of a place is so of the cell there; and each cell that is
-- denoted says the truth.
use Rattle.std.proofs.Common.{◌≡◌, ℕ, zero, suc, inl, inr, false, List, [], ◌∷◌, get_or, set, slice_get, Option, Some, None, refl, sym, ap, subst, ◌∙◌, le_refl}
use Rattle.isa_model.specs.declared.task.Task.{Task}
use Rattle.isa_model.specs.AloneValue.{alone_value}
use Rattle.isa_model.specs.declared.latch.Latch.{Latch}
use Rattle.isa_model.specs.declared.latch.Latch.TheVariants as latches
use Rattle.hart_model.specs.declared.place.Place.{Place}
use Rattle.hart_model.specs.declared.place.Place.TheVariants.{Reg, PortA, PortB, Res, Load, Store, Scr, Mul, Zero, SlotWord, DataWord}
use Rattle.hart_model.specs.declared.tag.Cell.{Cell}
use Rattle.hart_model.specs.declared.tag.Tag.{Tag}
use Rattle.hart_model.specs.declared.tag.Tag.TheVariants.{Public}
use Rattle.hart_model.specs.Cells.{Cells, blank, with_cell}
use Rattle.hart_model.specs.Context.{ContextState}
use Rattle.hart_model.specs.HartState.{HartState, cells_of, hart_cell, hart_with_cell}
use Rattle.core_model.specs.Soundness.{IsAsTagged, IsTruthful, IsOwn}
use Rattle.symbolic_run.specs.AbstractCell.{AbstractCell, AbstractState, SlotAddress, PublicAny, PublicNumber, TaskReg, OldSlotWord, GivenCell, AnyTagged, is_tagged, is_zero, abstract_cell_at}
use Rattle.symbolic_run.specs.AbstractCell as abstract
use Rattle.symbolic_run.specs.Concretization.{Valuation, IsSound, Denotes, AllDenote, RegsDenote, IsDenotedBy}

-- an equal cell says the truth too
truthful-as : (tasks : List Task) (c d : Cell) → c ≡ d → IsTruthful tasks d → IsTruthful tasks c
truthful-as tasks c d e t = let P : Cell → Type 0 = λ x. IsTruthful tasks x in subst P (sym e) t

-- a public cell says the truth
pub public-truthful : (tasks : List Task) (value : ℕ) (t : Tag) → t ≡ Public → IsAsTagged tasks value t
public-truthful tasks value t e = let P : Tag → Type 0 = λ x. IsAsTagged tasks value x in subst P (sym e) tt

-- a cell that is a task's own says the truth
pub own-truthful : (tasks : List Task) (task_no : ℕ) (task : Task) (n : ℕ) (l : Latch) (c : Cell) → slice_get tasks task_no ≡ Some task →
    IsOwn task_no task n l c → IsTruthful tasks c
own-truthful tasks task_no task n l c e (inl untouched) = public-truthful tasks c.value c.tag untouched.tag
own-truthful tasks task_no task n l c e (inr written) =
    let P : Tag → Type 0 = λ x. IsAsTagged tasks c.value x in
    let same : c.value ≡ alone_value task written.since l = written.value ∙ sym (written.unchanged written.since (le_refl written.since) written.since_high) in
    subst P (sym written.tag) (record { task = task; is_task = e; is_value = same })

-- a denoted cell says the truth
pub denoted-truthful : (s : Valuation) → IsSound s → (a : AbstractCell) (c : Cell) → Denotes s a c → IsTruthful s.tasks c
denoted-truthful s ok abstract.Zero c d = truthful-as s.tasks c _ d tt
denoted-truthful s ok SlotAddress c d = truthful-as s.tasks c _ d tt
denoted-truthful s ok PublicAny c d = public-truthful s.tasks c.value c.tag d
denoted-truthful s ok (PublicNumber value) c d = truthful-as s.tasks c _ d tt
denoted-truthful s ok (TaskReg number) c d =
    let own = own-truthful s.tasks s.task_no s.task s.count (latches.Reg number) (s.task_regs number) ok.is_task (ok.regs number d.0 d.1) in
    truthful-as s.tasks c (s.task_regs number) d.2 own
denoted-truthful s ok (OldSlotWord index) c d = truthful-as s.tasks c (s.old_words index) d.2 (ok.words index d.0 d.1)
denoted-truthful s ok GivenCell c d = truthful-as s.tasks c s.given_cell d ok.given_cell
denoted-truthful s ok AnyTagged c d = d

-- a cell that isn't known as tagged is public
pub denoted-public : (s : Valuation) (a : AbstractCell) (c : Cell) → is_tagged a ≡ false → Denotes s a c → c.tag ≡ Public
denoted-public s abstract.Zero c e d = ap (λ x. x.tag) d
denoted-public s SlotAddress c e d = ap (λ x. x.tag) d
denoted-public s PublicAny c e d = d
denoted-public s (PublicNumber value) c e d = ap (λ x. x.tag) d
denoted-public s (TaskReg number) c e d = absurd (cc e)
denoted-public s (OldSlotWord index) c e d = absurd (cc e)
denoted-public s GivenCell c e d = absurd (cc e)
denoted-public s AnyTagged c e d = absurd (cc e)

-- an element of cells that are denoted, and these with one element changed
pub all-get : (s : Valuation) (abstract : List AbstractCell) (cs : List Cell) (i : ℕ) → AllDenote s abstract cs →
    Denotes s (get_or abstract i AnyTagged) (get_or cs i blank)
all-get s [] [] i d = tt
all-get s [] (c ∷ cs) i d = absurd d
all-get s (a ∷ abstract) [] i d = absurd d
all-get s (a ∷ abstract) (c ∷ cs) zero d = d.0
all-get s (a ∷ abstract) (c ∷ cs) (suc i) d = all-get s abstract cs i d.1

pub all-set : (s : Valuation) (abstract : List AbstractCell) (cs : List Cell) (i : ℕ) (a : AbstractCell) (c : Cell) → AllDenote s abstract cs →
    Denotes s a c → AllDenote s (set abstract i a) (set cs i c)
all-set s [] [] i a c d new = tt
all-set s [] (b ∷ cs) i a c d new = absurd d
all-set s (b ∷ abstract) [] i a c d new = absurd d
all-set s (b ∷ abstract) (e ∷ cs) zero a c d new = (new, d.1)
all-set s (b ∷ abstract) (e ∷ cs) (suc i) a c d new = (d.0, all-set s abstract cs i a c d.1 new)

-- the same for registers but x0
pub regs-get : (s : Valuation) (abstract : List AbstractCell) (cs : List Cell) (r : ℕ) → RegsDenote s abstract cs →
    Denotes s (get_or abstract (suc r) AnyTagged) (get_or cs (suc r) blank)
regs-get s [] [] r d = tt
regs-get s [] (c ∷ cs) r d = absurd d
regs-get s (a ∷ abstract) [] r d = absurd d
regs-get s (a ∷ abstract) (c ∷ cs) r d = all-get s abstract cs r d

pub regs-set : (s : Valuation) (abstract : List AbstractCell) (cs : List Cell) (r : ℕ) (a : AbstractCell) (c : Cell) → RegsDenote s abstract cs →
    Denotes s a c → RegsDenote s (set abstract r a) (set cs r c)
regs-set s [] [] r a c d new = tt
regs-set s [] (b ∷ cs) r a c d new = absurd d
regs-set s (b ∷ abstract) [] r a c d new = absurd d
regs-set s (b ∷ abstract) (e ∷ cs) zero a c d new = d
regs-set s (b ∷ abstract) (e ∷ cs) (suc r) a c d new = all-set s abstract cs r a c d new

-- the places of which an abstract state speaks
abbrev pub IsSpokenOf : Place → Type 0
IsSpokenOf (DataWord i) = ⊥
IsSpokenOf place = Unit {0}

-- what a state says of a place is so of the cell there
pub cell-denoted : (s : Valuation) (a : AbstractState) (h : HartState) (place : Place) → IsSpokenOf place → IsDenotedBy s a (cells_of h) →
    Denotes s (abstract_cell_at a place) (hart_cell h place)
cell-denoted s a h (Reg zero) ok d = refl
cell-denoted s a h (Reg (suc r)) ok d = regs-get s a.regs h.regs r d.regs
cell-denoted s a h PortA ok d = d.port_a
cell-denoted s a h PortB ok d = d.port_b
cell-denoted s a h Res ok d = d.res
cell-denoted s a h Load ok d = d.load
cell-denoted s a h Store ok d = d.store
cell-denoted s a h Scr ok d = d.scr
cell-denoted s a h Mul ok d = d.mul
cell-denoted s a h Zero ok d = d.zero
cell-denoted s a h (SlotWord i) ok d = all-get s a.slot (cells_of h).slot i d.slot
cell-denoted s a h (DataWord i) ok d = absurd ok

-- a write, on the cells alone
pub write-denoted : (s : Valuation) (a : AbstractState) (cells : Cells Cell) (place : Place) (new : AbstractCell) (c : Cell) → IsDenotedBy s a cells →
    Denotes s new c → IsDenotedBy s (with_cell a place new) (with_cell cells place c)
write-denoted s a cells (Reg r) new c d t = record {
  regs = regs-set s a.regs cells.regs r new c d.regs t;
  port_a = d.port_a;
  port_b = d.port_b;
  res = d.res;
  load = d.load;
  store = d.store;
  scr = d.scr;
  mul = d.mul;
  zero = d.zero;
  slot = d.slot;
  no_data = d.no_data;
}
write-denoted s a cells PortA new c d t = record {
  regs = d.regs;
  port_a = t;
  port_b = d.port_b;
  res = d.res;
  load = d.load;
  store = d.store;
  scr = d.scr;
  mul = d.mul;
  zero = d.zero;
  slot = d.slot;
  no_data = d.no_data;
}
write-denoted s a cells PortB new c d t = record {
  regs = d.regs;
  port_a = d.port_a;
  port_b = t;
  res = d.res;
  load = d.load;
  store = d.store;
  scr = d.scr;
  mul = d.mul;
  zero = d.zero;
  slot = d.slot;
  no_data = d.no_data;
}
write-denoted s a cells Res new c d t = record {
  regs = d.regs;
  port_a = d.port_a;
  port_b = d.port_b;
  res = t;
  load = d.load;
  store = d.store;
  scr = d.scr;
  mul = d.mul;
  zero = d.zero;
  slot = d.slot;
  no_data = d.no_data;
}
write-denoted s a cells Load new c d t = record {
  regs = d.regs;
  port_a = d.port_a;
  port_b = d.port_b;
  res = d.res;
  load = t;
  store = d.store;
  scr = d.scr;
  mul = d.mul;
  zero = d.zero;
  slot = d.slot;
  no_data = d.no_data;
}
write-denoted s a cells Store new c d t = record {
  regs = d.regs;
  port_a = d.port_a;
  port_b = d.port_b;
  res = d.res;
  load = d.load;
  store = t;
  scr = d.scr;
  mul = d.mul;
  zero = d.zero;
  slot = d.slot;
  no_data = d.no_data;
}
write-denoted s a cells Scr new c d t = record {
  regs = d.regs;
  port_a = d.port_a;
  port_b = d.port_b;
  res = d.res;
  load = d.load;
  store = d.store;
  scr = t;
  mul = d.mul;
  zero = d.zero;
  slot = d.slot;
  no_data = d.no_data;
}
write-denoted s a cells Mul new c d t = record {
  regs = d.regs;
  port_a = d.port_a;
  port_b = d.port_b;
  res = d.res;
  load = d.load;
  store = d.store;
  scr = d.scr;
  mul = t;
  zero = d.zero;
  slot = d.slot;
  no_data = d.no_data;
}
write-denoted s a cells Zero new c d t = record {
  regs = d.regs;
  port_a = d.port_a;
  port_b = d.port_b;
  res = d.res;
  load = d.load;
  store = d.store;
  scr = d.scr;
  mul = d.mul;
  zero = t;
  slot = d.slot;
  no_data = d.no_data;
}
write-denoted s a cells (SlotWord i) new c d t = record {
  regs = d.regs;
  port_a = d.port_a;
  port_b = d.port_b;
  res = d.res;
  load = d.load;
  store = d.store;
  scr = d.scr;
  mul = d.mul;
  zero = d.zero;
  slot = all-set s a.slot cells.slot i new c d.slot t;
  no_data = d.no_data;
}
write-denoted s a cells (DataWord i) new c d t = record {
  regs = d.regs;
  port_a = d.port_a;
  port_b = d.port_b;
  res = d.res;
  load = d.load;
  store = d.store;
  scr = d.scr;
  mul = d.mul;
  zero = d.zero;
  slot = d.slot;
  no_data = ap (λ words. set words i new) d.no_data;
}

-- and on a hart: a slot word or a data word of nothing held stays, and an abstract state speaks of none
cells-after : (h : HartState) (place : Place) (c : Cell) → cells_of (hart_with_cell h place c) ≡ with_cell (cells_of h) place c
cells-after h (Reg r) c = refl
cells-after h PortA c = refl
cells-after h PortB c = refl
cells-after h Res c = refl
cells-after h Load c = refl
cells-after h Store c = refl
cells-after h Scr c = refl
cells-after h Mul c = refl
cells-after h Zero c = refl
cells-after h (SlotWord i) c = of-held h.held refl
  where
    of-held : (held : Option ContextState) → h.held ≡ held → cells_of (hart_with_cell h (SlotWord i) c) ≡ with_cell (cells_of h) (SlotWord i) c
    of-held None e = rw (e) refl
    of-held (Some context) e = rw (e) refl
cells-after h (DataWord i) c = of-held h.held refl
  where
    of-held : (held : Option ContextState) → h.held ≡ held → cells_of (hart_with_cell h (DataWord i) c) ≡ with_cell (cells_of h) (DataWord i) c
    of-held None e = rw (e) refl
    of-held (Some context) e = rw (e) refl

pub hart-write-denoted : (s : Valuation) (a : AbstractState) (h : HartState) (place : Place) (new : AbstractCell) (c : Cell) →
    IsDenotedBy s a (cells_of h) → Denotes s new c → IsDenotedBy s (with_cell a place new) (cells_of (hart_with_cell h place c))
hart-write-denoted s a h place new c d t =
    let P : Cells Cell → Type 0 = λ x. IsDenotedBy s (with_cell a place new) x in
    subst P (sym (cells-after h place c)) (write-denoted s a (cells_of h) place new c d t)
