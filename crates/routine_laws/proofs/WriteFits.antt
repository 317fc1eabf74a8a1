-- Writes of which contents say so: after them the state is as the contents say, and what no write reaches is as before.
use Rattle.std.proofs.Common.{◌≡◌, ◌⊎◌, inl, inr, ℕ, ◌≤◌, ◌<◌, ◌≢◌, Bool, true, false, ◌&&◌, not, List, [], ◌∷◌, get_or, length, Some, refl, sym, subst, ap, ◌∙◌, arith}
use Rattle.std.proofs.lemmas.List.{get_or-set_other, length-set}
use Rattle.hart_model.specs.declared.place.Place.{Place}
use Rattle.hart_model.specs.declared.place.Place.TheVariants.{Zero, SlotWord, DataWord}
use Rattle.hart_model.specs.Cells.{with_cell}
use Rattle.symbolic_run.specs.AbstractCell.{AbstractCell, AbstractState, abstract_cell_at}
use Rattle.symbolic_run.specs.AbstractCell as cells
use Rattle.symbolic_run.specs.AbstractEffect.{AbstractWrite}
use Rattle.symbolic_run.specs.AbstractRun as run
use Rattle.symbolic_run.proofs.OneWrite.{IsSpokenOf}
use Rattle.routine_laws.specs.declared.content.Content.{Content}
use Rattle.routine_laws.specs.Contents.{Contents, ContentWrite, is_tagged, content_at}
use Rattle.routine_laws.specs.declared.content.Content.TheVariants as contents
use Rattle.routine_laws.specs.Rules.{WordOutcome, Leaves, unless_met}
use Rattle.routine_laws.specs.Rules as rules
use Rattle.routine_laws.proofs.Fits.{Fits, fits-untagged, FitState, fit-at, fit-with}

-- Where a routine may write: not to data words, to words 1 to 31 of the slot, and nothing but 0 to the word that is always 0.
abbrev pub MayWrite : Place → Content → Type 0
MayWrite Zero k = k ≡ contents.Zero
MayWrite (DataWord i) k = ⊥
MayWrite (SlotWord i) k = (1 ≤ i) × (i < 32)
MayWrite place k = Unit {0}

spoken : (p : Place) (k : Content) → MayWrite p k → IsSpokenOf p
spoken (DataWord i) k may = absurd may
spoken p k may = tt

-- a write of contents speaks of an abstract one
pub record WriteFits (w : ContentWrite) (u : AbstractWrite) : Type 0 where
  pub at : u.at ≡ w.at
  pub cell : Fits w.content u.cell
  pub may : MayWrite w.at w.content

abbrev pub WritesFit : List ContentWrite → List AbstractWrite → Type 0
WritesFit [] [] = Unit {0}
WritesFit [] (u ∷ us) = ⊥
WritesFit (w ∷ ws) [] = ⊥
WritesFit (w ∷ ws) (u ∷ us) = WriteFits w u × WritesFit ws us

-- What stays: how many words the slot has, and those of them that keep no register.
pub record StaysBeside (a b : AbstractState) : Type 0 where
  pub slot_len : length b.slot ≡ length a.slot
  pub others : (i : ℕ) → (i ≡ 0) ⊎ (32 ≤ i) → get_or b.slot i cells.AnyTagged ≡ get_or a.slot i cells.AnyTagged

pub stays-same : (a : AbstractState) → StaysBeside a a
stays-same a = record { slot_len = refl; others = λ i beside. refl }

pub stays-then : (a b c : AbstractState) → StaysBeside a b → StaysBeside b c → StaysBeside a c
stays-then a b c one two = record { slot_len = two.slot_len ∙ one.slot_len; others = λ i beside. two.others i beside ∙ one.others i beside }

apart : (i j : ℕ) → 1 ≤ j → j < 32 → (i ≡ 0) ⊎ (32 ≤ i) → i ≢ j
apart i j low high (inl is) e = omega arith
apart i j low high (inr is) e = omega arith

one-stays : (a : AbstractState) (p : Place) (k : Content) (x : AbstractCell) → MayWrite p k → StaysBeside a (with_cell a p x)
one-stays a (SlotWord j) k x may = record {
  slot_len = length-set a.slot j x;
  others = λ i beside. get_or-set_other a.slot j i x cells.AnyTagged (apart i j may.0 may.1 beside);
}
one-stays a (DataWord j) k x may = absurd may
one-stays a p k x may = record { slot_len = refl; others = λ i beside. refl }

-- where the contents don't meet, the cells don't
not-both : (b c d e : Bool) → (b && c) ≡ false → (b ≡ false → d ≡ false) → (c ≡ false → e ≡ false) → not (d && e) ≡ true
not-both false c d e clear f g = ap (λ x. not (x && e)) (f refl)
not-both true false d e clear f g = ap (λ x. not (d && x)) (g refl) ∙ none d
  where
    none : (x : Bool) → not (x && false) ≡ true
    none true = refl
    none false = refl
not-both true true d e clear f g = absurd (cc clear)

no-meeting : (old new : Content) (x y : AbstractCell) → (is_tagged old && is_tagged new) ≡ false → Fits old x → Fits new y
    → not (cells.is_tagged x && cells.is_tagged y) ≡ true
no-meeting old new x y clear f g =
    not-both (is_tagged old) (is_tagged new) (cells.is_tagged x) (cells.is_tagged y) clear (λ e. fits-untagged old x e f)
    (λ e. fits-untagged new y e g)

zero-taken : (k : Content) (y : AbstractCell) → k ≡ contents.Zero → Fits k y → cells.is_zero y ≡ true
zero-taken k y e f =
    let same : y ≡ cells.Zero = subst (λ (c : Content). Fits c y) e f in
    ap cells.is_zero same

-- so the write is allowed
allowed : (p : Place) (old new : Content) (x y : AbstractCell) → MayWrite p new → (is_tagged old && is_tagged new) ≡ false → Fits old x → Fits new y
    → run.is_allowed p x y ≡ true
allowed Zero old new x y may clear f g = zero-taken new y may g
allowed (DataWord i) old new x y may clear f g = absurd may
allowed p old new x y may clear f g = no-meeting old new x y clear f g

-- what writes leave, on both sides
pub record LeavesBoth (us : List AbstractWrite) (a : AbstractState) (d : Contents) : Type 0 where
  pub cells_left : AbstractState
  pub are : run.after_writes us a ≡ Some cells_left
  pub fit : FitState d cells_left
  pub stays : StaysBeside a cells_left

-- where writes are done, the contents of the first one don't meet
went-on : (b : Bool) (outcome : WordOutcome) (d : Contents) → unless_met b outcome ≡ Leaves d → (b ≡ false) × (outcome ≡ Leaves d)
went-on true outcome d e = absurd (cc e)
went-on false outcome d e = (refl, e)

pub writes-leave : (ws : List ContentWrite) (us : List AbstractWrite) (c d : Contents) (a : AbstractState) → WritesFit ws us → FitState c a
    → rules.after_writes ws c ≡ Leaves d → LeavesBoth us a d
writes-leave [] [] c d a fit f e =
    let same : c ≡ d = cc e in
    record { cells_left = a; are = refl; fit = subst (λ (k : Contents). FitState k a) same f; stays = stays-same a }
writes-leave [] (u ∷ us) c d a fit f e = absurd fit
writes-leave (w ∷ ws) [] c d a fit f e = absurd fit
writes-leave (w ∷ ws) (u ∷ us) c d a fit f e =
    let one = fit.0 in
    let go = went-on (is_tagged (content_at c w.at) && is_tagged w.content) (rules.after_writes ws (with_cell c w.at w.content)) d e in
    let says = spoken w.at w.content one.may in
    let next : FitState (with_cell c w.at w.content) (with_cell a w.at u.cell) = fit-with c a w.at w.content u.cell says f one.cell in
    let more = writes-leave ws us (with_cell c w.at w.content) d (with_cell a w.at u.cell) fit.1 next go.1 in
    let ok : run.is_allowed w.at (abstract_cell_at a w.at) u.cell ≡ true =
    allowed w.at (content_at c w.at) w.content (abstract_cell_at a w.at) u.cell one.may go.0 (fit-at c a w.at says f) one.cell in
    let P : Place → Type 0 =
    λ p. run.if_allowed (run.is_allowed p (abstract_cell_at a p) u.cell) (run.after_writes us (with_cell a p u.cell)) ≡ Some more.cells_left in
    let Q : Bool → Type 0 = λ b. run.if_allowed b (run.after_writes us (with_cell a w.at u.cell)) ≡ Some more.cells_left in
    record {
      cells_left = more.cells_left;
      are = subst P (sym one.at) (subst Q (sym ok) more.are);
      fit = more.fit;
      stays = stays-then a (with_cell a w.at u.cell) more.cells_left (one-stays a w.at w.content u.cell one.may) more.stays;
    }
