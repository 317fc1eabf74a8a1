-- What a load or a store of a routine reaches is what the same access reaches over abstract cells.
use Rattle.std.proofs.Common.{◌≡◌, ◌⊎◌, inl, inr, ℕ, ◌+◌, ◌-◌, ◌*◌, ◌/◌, ◌%◌, ◌≤◌, ◌<◌, Bool, true, false, ◌&&◌, nat_le, nat_lt, ◌==◌, if◌then◌else◌, ℤ, pos, negsuc, Some, None, refl, sym, ap, subst, ◌∙◌, arith, eqb-true, eq-eqb, ne_eqb, leb-true, le-leb, lt-ltb}
use Rattle.std.proofs.lemmas.Bool.{and_parts, and_from}
use Rattle.isa_model.specs.Bits.{word_address}
use Rattle.isa_model.specs.Effect.{address}
use Rattle.isa_model.specs.declared.latch.Latch.TheVariants.{Mem}
use Rattle.hart_model.specs.declared.place.Place.{Place}
use Rattle.hart_model.specs.declared.place.Place.TheVariants as places
use Rattle.hart_model.specs.Cells.{index_in, slot_place_of, data_place_of, place_of}
use Rattle.symbolic_run.specs.AbstractCell.{AbstractCell, AbstractState}
use Rattle.symbolic_run.specs.AbstractCell as cells
use Rattle.symbolic_run.specs.AbstractEffect.{stand_in, stand_in_bases, slot_word_if, reached_from, place_from, reg_cell}
use Rattle.symbolic_run.proofs.OneWrite.{IsSpokenOf}
use Rattle.core_invariant.proofs.KernelCells.{reached}
use Rattle.routine_laws.specs.declared.content.Content.{Content}
use Rattle.routine_laws.specs.Contents.{Contents, register, is_saved_offset, saved_word, word_from, is_zero_offset, reached_by}
use Rattle.routine_laws.specs.declared.content.Content.TheVariants as contents
use Rattle.routine_laws.proofs.Fits.{Fits, FitState, fit-at}
use Rattle.routine_laws.proofs.WriteFits.{MayWrite}

-- an access from the slot's address, to the word of an index
pub record IsSlotAccess (c : Contents) (rs1 : ℕ) (imm : ℤ) (place : Place) : Type 0 where
  pub index : ℕ
  pub low : 1 ≤ index
  pub high : index < 32
  pub base : register c rs1 ≡ contents.SlotAddress
  pub imm_is : imm ≡ pos (4 * index)
  pub place_is : place ≡ places.SlotWord index

-- an access from x0, to the word that is always 0
pub record IsZeroAccess (rs1 : ℕ) (imm : ℤ) (place : Place) : Type 0 where
  pub base : rs1 ≡ 0
  pub imm_is : imm ≡ pos 0x100
  pub place_is : place ≡ places.Zero

zero-offset-is : (imm : ℤ) → is_zero_offset imm ≡ true → imm ≡ pos 0x100
zero-offset-is (pos at) e = ap pos (eqb-true at 0x100 e)
zero-offset-is (negsuc n) e = absurd (cc e)

by-offset : (c : Contents) (rs1 at : ℕ) (place : Place) (b : Bool) → is_saved_offset at ≡ b → register c rs1 ≡ contents.SlotAddress
    → (if b then Some (places.SlotWord (at / 4)) else None) ≡ Some place → IsSlotAccess c rs1 (pos at) place
by-offset c rs1 at place false test base e = absurd (cc e)
by-offset c rs1 at place true test base e =
    let p = and_parts (nat_le 4 at && nat_le at 124) (at % 4 == 0) test in
    let q = and_parts (nat_le 4 at) (nat_le at 124) p.0 in
    let low : 4 ≤ at = leb-true 4 at q.0 in
    let high : at ≤ 124 = leb-true at 124 q.1 in
    let aligned : at % 4 ≡ 0 = eqb-true (at % 4) 0 p.1 in
    let whole : at ≡ 4 * (at / 4) = omega (arith, aligned) in
    record {
      index = at / 4;
      low = omega (arith, low, aligned);
      high = omega (arith, high);
      base = base;
      imm_is = ap pos whole;
      place_is = sym (cc e);
    }

by-imm : (c : Contents) (rs1 : ℕ) (imm : ℤ) (place : Place) → register c rs1 ≡ contents.SlotAddress → saved_word imm ≡ Some place
    → IsSlotAccess c rs1 imm place
by-imm c rs1 (pos at) place base e = by-offset c rs1 at place (is_saved_offset at) refl base e
by-imm c rs1 (negsuc n) place base e = absurd (cc e)

by-content : (c : Contents) (rs1 : ℕ) (imm : ℤ) (place : Place) (k : Content) → register c rs1 ≡ k → word_from k imm ≡ Some place
    → IsSlotAccess c rs1 imm place
by-content c rs1 imm place contents.SlotAddress base e = by-imm c rs1 imm place base e
by-content c rs1 imm place contents.Zero base e = absurd (cc e)
by-content c rs1 imm place contents.Public base e = absurd (cc e)
by-content c rs1 imm place (contents.TaskReg number) base e = absurd (cc e)
by-content c rs1 imm place (contents.OldSlotWord index) base e = absurd (cc e)
by-content c rs1 imm place contents.Unknown base e = absurd (cc e)

by-test : (c : Contents) (rs1 : ℕ) (imm : ℤ) (place : Place) (b : Bool) → ((rs1 == 0) && is_zero_offset imm) ≡ b
    → (if b then Some places.Zero else word_from (register c rs1) imm) ≡ Some place → IsZeroAccess rs1 imm place ⊎ IsSlotAccess c rs1 imm place
by-test c rs1 imm place true test e =
    let p = and_parts (rs1 == 0) (is_zero_offset imm) test in
    inl (record { base = eqb-true rs1 0 p.0; imm_is = zero-offset-is imm p.1; place_is = sym (cc e) })
by-test c rs1 imm place false test e = inr (by-content c rs1 imm place (register c rs1) refl e)

-- what is reached is one of these
access-parts : (c : Contents) (rs1 : ℕ) (imm : ℤ) (place : Place) → reached_by c rs1 imm ≡ Some place
    → IsZeroAccess rs1 imm place ⊎ IsSlotAccess c rs1 imm place
access-parts c rs1 imm place e = by-test c rs1 imm place ((rs1 == 0) && is_zero_offset imm) refl e

-- What the access reaches over abstract cells, from an untagged cell and at an aligned address.
pub record IsAccess (a : AbstractState) (rs1 : ℕ) (imm : ℤ) (place : Place) : Type 0 where
  pub untagged : cells.is_tagged (reg_cell a rs1) ≡ false
  pub found : place_from reached (reg_cell a rs1) (address (stand_in (reg_cell a rs1)) imm) ≡ Some place
  pub aligned : (address (stand_in (reg_cell a rs1)) imm % 4 == 0) ≡ true
  pub stand_in_place : place_of stand_in_bases (Mem (word_address (address (stand_in (reg_cell a rs1)) imm))) ≡ Some place

-- from x0
zero-access : (a : AbstractState) → IsAccess a 0 (pos 0x100) places.Zero
zero-access a = record { untagged = refl; found = refl; aligned = refl; stand_in_place = refl }

-- a choice that is made
then-is : {A : Type 0} (b : Bool) (x y : A) → b ≡ true → (if b then x else y) ≡ x
then-is true x y e = refl
then-is false x y e = absurd (cc e)

else-is : {A : Type 0} (b : Bool) (x y : A) → b ≡ false → (if b then x else y) ≡ y
else-is false x y e = refl
else-is true x y e = absurd (cc e)

-- from the slot's address
module _ (i : ℕ) (low : 1 ≤ i) (high : i < 32) where
  address-is : address (stand_in cells.SlotAddress) (pos (4 * i)) ≡ 512 + 4 * i
  address-is =
      let goal : (512 + 4 * i) % 4294967296 ≡ 512 + 4 * i = omega (arith, high) in
      goal

  word-is : word_address (512 + 4 * i) ≡ 512 + 4 * i
  word-is = omega arith

  index-found : index_in 512 36 (512 + 4 * i) ≡ Some i
  index-found =
      let p : nat_le 512 (512 + 4 * i) ≡ true = le-leb 512 (512 + 4 * i) (omega arith) in
      let q : nat_lt (512 + 4 * i) 656 ≡ true = lt-ltb (512 + 4 * i) 656 (omega (arith, high)) in
      let z : ((512 + 4 * i - 512) % 4 == 0) ≡ true = eq-eqb ((512 + 4 * i - 512) % 4) 0 (omega arith) in
      let d : (512 + 4 * i - 512) / 4 ≡ i = omega arith in
      then-is (nat_le 512 (512 + 4 * i) && nat_lt (512 + 4 * i) 656 && ((512 + 4 * i - 512) % 4 == 0)) (Some ((512 + 4 * i - 512) / 4)) None
      (and_from (nat_le 512 (512 + 4 * i) && nat_lt (512 + 4 * i) 656) ((512 + 4 * i - 512) % 4 == 0)
      (and_from (nat_le 512 (512 + 4 * i)) (nat_lt (512 + 4 * i) 656) p q) z)
      ∙ ap (λ n. Some n) d

  slot-place : place_of stand_in_bases (Mem (512 + 4 * i)) ≡ Some (places.SlotWord i)
  slot-place =
      let apart : (512 + 4 * i == 256) ≡ false = ne_eqb (512 + 4 * i) 256 (omega arith) in
      else-is (512 + 4 * i == 256) (Some places.Zero)
      (slot_place_of (index_in 512 36 (512 + 4 * i)) (data_place_of (index_in 0 0 (512 + 4 * i)))) apart
      ∙ ap (λ o. slot_place_of o (data_place_of (index_in 0 0 (512 + 4 * i)))) index-found

  may : reached i ≡ true
  may = and_from (nat_le 1 i) (nat_le i 31) (le-leb 1 i low) (le-leb i 31 (omega (arith, high)))

  slot-reached : reached_from reached cells.SlotAddress (place_of stand_in_bases (Mem (512 + 4 * i))) ≡ Some (places.SlotWord i)
  slot-reached = ap (λ o. reached_from reached cells.SlotAddress o) slot-place ∙ ap (λ b. slot_word_if b i) may

  slot-found : place_from reached cells.SlotAddress (address (stand_in cells.SlotAddress) (pos (4 * i))) ≡ Some (places.SlotWord i)
  slot-found =
      let P : ℕ → Type 0 = λ at. reached_from reached cells.SlotAddress (place_of stand_in_bases (Mem at)) ≡ Some (places.SlotWord i) in
      let Q : ℕ → Type 0 =
      λ at. reached_from reached cells.SlotAddress (place_of stand_in_bases (Mem (word_address at))) ≡ Some (places.SlotWord i) in
      subst Q (sym address-is) (subst P (sym word-is) slot-reached)

  slot-stand-in : place_of stand_in_bases (Mem (word_address (address (stand_in cells.SlotAddress) (pos (4 * i))))) ≡ Some (places.SlotWord i)
  slot-stand-in =
      let P : ℕ → Type 0 = λ at. place_of stand_in_bases (Mem at) ≡ Some (places.SlotWord i) in
      subst P (sym (ap word_address address-is ∙ word-is)) slot-place

  slot-aligned : (address (stand_in cells.SlotAddress) (pos (4 * i)) % 4 == 0) ≡ true
  slot-aligned =
      let P : ℕ → Type 0 = λ at. (at % 4 == 0) ≡ true in
      subst P (sym address-is) (eq-eqb ((512 + 4 * i) % 4) 0 (omega arith))

slot-access : (c : Contents) (a : AbstractState) (rs1 : ℕ) (imm : ℤ) (place : Place) → FitState c a → IsSlotAccess c rs1 imm place
    → IsAccess a rs1 imm place
slot-access c a rs1 imm place f s =
    let fits : Fits (register c rs1) (reg_cell a rs1) = fit-at c a (places.Reg rs1) tt f in
    let is : reg_cell a rs1 ≡ cells.SlotAddress = subst (λ (k : Content). Fits k (reg_cell a rs1)) s.base fits in
    let Found : AbstractCell → Type 0 = λ x. place_from reached x (address (stand_in x) (pos (4 * s.index))) ≡ Some (places.SlotWord s.index) in
    let Aligned : AbstractCell → Type 0 = λ x. (address (stand_in x) (pos (4 * s.index)) % 4 == 0) ≡ true in
    let StandIn : AbstractCell → Type 0 =
    λ x. place_of stand_in_bases (Mem (word_address (address (stand_in x) (pos (4 * s.index))))) ≡ Some (places.SlotWord s.index) in
    let at : IsAccess a rs1 (pos (4 * s.index)) (places.SlotWord s.index) = record {
      untagged = ap cells.is_tagged is;
      found = subst Found (sym is) (slot-found s.index s.low s.high);
      aligned = subst Aligned (sym is) (slot-aligned s.index s.low s.high);
      stand_in_place = subst StandIn (sym is) (slot-stand-in s.index s.low s.high);
    } in
    let P : ℤ → Type 0 = λ m. IsAccess a rs1 m (places.SlotWord s.index) in
    let Q : Place → Type 0 = λ q. IsAccess a rs1 imm q in
    subst Q (sym s.place_is) (subst P (sym s.imm_is) at)

from-zero : (a : AbstractState) (rs1 : ℕ) (imm : ℤ) (place : Place) → IsZeroAccess rs1 imm place → IsAccess a rs1 imm place
from-zero a rs1 imm place z =
    let P : ℕ → Type 0 = λ r. IsAccess a r (pos 0x100) places.Zero in
    let Q : ℤ → Type 0 = λ m. IsAccess a rs1 m places.Zero in
    let R : Place → Type 0 = λ q. IsAccess a rs1 imm q in
    subst R (sym z.place_is) (subst Q (sym z.imm_is) (subst P (sym z.base) (zero-access a)))

-- So what a routine reaches is reached over abstract cells.
pub access : (c : Contents) (a : AbstractState) (rs1 : ℕ) (imm : ℤ) (place : Place) → FitState c a → reached_by c rs1 imm ≡ Some place
    → IsAccess a rs1 imm place
access c a rs1 imm place f e = by (access-parts c rs1 imm place e)
  where
    by : IsZeroAccess rs1 imm place ⊎ IsSlotAccess c rs1 imm place → IsAccess a rs1 imm place
    by (inl z) = from-zero a rs1 imm place z
    by (inr s) = slot-access c a rs1 imm place f s

-- and a store may go there
pub may-store : (c : Contents) (rs1 : ℕ) (imm : ℤ) (place : Place) (k : Content) → reached_by c rs1 imm ≡ Some place
    → (place ≡ places.Zero → k ≡ contents.Zero) → MayWrite place k
may-store c rs1 imm place k e if_zero = by (access-parts c rs1 imm place e)
  where
    by : IsZeroAccess rs1 imm place ⊎ IsSlotAccess c rs1 imm place → MayWrite place k
    by (inl z) = subst (λ (p : Place). MayWrite p k) (sym z.place_is) (if_zero z.place_is)
    by (inr s) = subst (λ (p : Place). MayWrite p k) (sym s.place_is) (s.low, s.high)

-- and contents speak of the place
pub place-spoken : (c : Contents) (rs1 : ℕ) (imm : ℤ) (place : Place) → reached_by c rs1 imm ≡ Some place → IsSpokenOf place
place-spoken c rs1 imm place e = by (access-parts c rs1 imm place e)
  where
    by : IsZeroAccess rs1 imm place ⊎ IsSlotAccess c rs1 imm place → IsSpokenOf place
    by (inl z) = subst (λ (p : Place). IsSpokenOf p) (sym z.place_is) tt
    by (inr s) = subst (λ (p : Place). IsSpokenOf p) (sym s.place_is) tt
