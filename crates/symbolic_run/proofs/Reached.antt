-- The place that an abstract access reaches by what is known of its address register is the one that the access on a hart reaches, and
-- where the one by stand-ins is aligned, so is the one on the hart.
use Rattle.std.proofs.Common.{◌≡◌, ℕ, ◌+◌, ◌*◌, ◌/◌, ◌%◌, ◌<◌, ◌≤◌, Bool, true, false, ◌==◌, ℤ, Option, Some, refl, sym, ap, subst, ◌∙◌, arith, ne_eqb}
use Rattle.isa_model.specs.Bits.{low_word, two_complement, word_address}
use Rattle.isa_model.specs.declared.latch.Latch.TheVariants.{Mem}
use Rattle.isa_model.specs.Effect.{address}
use Rattle.hart_model.specs.declared.place.Place.{Place}
use Rattle.hart_model.specs.declared.place.Place.TheVariants as places
use Rattle.hart_model.specs.declared.tag.Cell.{Cell}
use Rattle.hart_model.specs.Cells.{Bases, zero_address, index_in, place_of}
use Rattle.hart_model.specs.Context.{ContextState, slot_address, slot_len}
use Rattle.hart_model.specs.MachineStep.{machine_bases}
use Rattle.symbolic_run.specs.AbstractCell.{AbstractCell, Zero, SlotAddress, PublicAny, PublicNumber, TaskReg, OldSlotWord, GivenCell, AnyTagged}
use Rattle.symbolic_run.specs.AbstractEffect.{stand_in, stand_in_bases, place_from}
use Rattle.symbolic_run.specs.Concretization.{Valuation, IsSound, Denotes}
use Rattle.symbolic_run.proofs.OneWrite.{IsSpokenOf}
use Rattle.symbolic_run.proofs.Reach.{index-parts, from-slot, from-zero, from-number, slot-place-reached, zero-place-reached, number-place-reached}

-- An access from a register with this value reaches a place, on a hart that holds this, and so does the one by the stand-in.
pub record IsReached (held : Option ContextState) (x : AbstractCell) (value : ℕ) (imm : ℤ) (place : Place) : Type 0 where
  pub spoken : IsSpokenOf place
  pub is_place : place_of (machine_bases held) (Mem (word_address (address value imm))) ≡ Some place
  pub stand_in_place : place_of stand_in_bases (Mem (word_address (address (stand_in x) imm))) ≡ Some place
  pub aligned : address (stand_in x) imm % 4 ≡ 0 → address value imm % 4 ≡ 0

spoken-as : (p q : Place) → p ≡ q → IsSpokenOf q → IsSpokenOf p
spoken-as p q e t = let P : Place → Type 0 = λ x. IsSpokenOf x in subst P (sym e) t

-- the word of the slot by the stand-in
slot-stand-in : (may_reach : ℕ → Bool) (at : ℕ) (place : Place) → place_from may_reach SlotAddress at ≡ Some place →
    IsSpokenOf place × (place_of stand_in_bases (Mem (word_address at)) ≡ Some place)
slot-stand-in may_reach at place e =
    let a = word_address at in
    let p = from-slot may_reach (a == zero_address) (index_in (slot_address 0) slot_len a) (index_in 0 0 a) place e in
    let low : 512 ≤ at / 4 * 4 = (index-parts a p.index p.is_index).low in
    let apart : (a == zero_address) ≡ false = ne_eqb _ _ (omega (arith, low)) in
    let found = p.is_index in
    let same = p.is_place in
    (spoken-as place (places.SlotWord p.index) same tt, rw (apart, found) (ap Some (sym same)))

-- a multiple of 4 from one slot's address is one from another's
slots-aligned : (slot k : ℕ) → low_word (slot_address 0 + k) % 4 ≡ 0 → low_word (slot_address slot + k) % 4 ≡ 0
slots-aligned slot k e =
    let z : (512 + k) % 4294967296 % 4 ≡ 0 = e in
    let goal : (512 + 160 * slot + k) % 4294967296 % 4 ≡ 0 = omega (arith, z) in
    goal

slot-reached : (may_reach : ℕ → Bool) (c : ContextState) (imm : ℤ) (place : Place) → c.slot < 8 →
    place_from may_reach SlotAddress (address (slot_address 0) imm) ≡ Some place → IsReached (Some c) SlotAddress (slot_address c.slot) imm place
slot-reached may_reach c imm place below e =
    let t = slot-stand-in may_reach (address (slot_address 0) imm) place e in
    record {
      spoken = t.0;
      is_place = slot-place-reached may_reach c (two_complement 32 imm) place below e;
      stand_in_place = t.1;
      aligned = slots-aligned c.slot (two_complement 32 imm);
    }

-- the word that is always 0, on any hart
zero-word : (bases : Bases) (at : ℕ) (place : Place) → (at == zero_address) ≡ true → place ≡ places.Zero → place_of bases (Mem at) ≡ Some place
zero-word bases at place e p = rw (e, p) refl

zero-reached : (may_reach : ℕ → Bool) (held : Option ContextState) (imm : ℤ) (place : Place) →
    place_from may_reach Zero (address 0 imm) ≡ Some place → IsReached held Zero 0 imm place
zero-reached may_reach held imm place e =
    let a = word_address (address 0 imm) in
    let p = from-zero may_reach (a == zero_address) (index_in (slot_address 0) slot_len a) (index_in 0 0 a) place e in
    record {
      spoken = spoken-as place places.Zero p.1 tt;
      is_place = zero-place-reached may_reach held (address 0 imm) place e;
      stand_in_place = zero-word stand_in_bases a place p.0 p.1;
      aligned = λ z. z;
    }

number-reached : (may_reach : ℕ → Bool) (held : Option ContextState) (value : ℕ) (imm : ℤ) (place : Place) →
    place_from may_reach (PublicNumber value) (address value imm) ≡ Some place → IsReached held (PublicNumber value) value imm place
number-reached may_reach held value imm place e =
    let a = word_address (address value imm) in
    let p = from-number may_reach value (a == zero_address) (index_in (slot_address 0) slot_len a) (index_in 0 0 a) place e in
    record {
      spoken = spoken-as place places.Zero p.1 tt;
      is_place = number-place-reached may_reach held value (address value imm) place e;
      stand_in_place = zero-word stand_in_bases a place p.0 p.1;
      aligned = λ z. z;
    }

-- from a register of a hart that holds the slot, by what is known of it
pub reached : (s : Valuation) → IsSound s → (may_reach : ℕ → Bool) (held : Option ContextState) (c : ContextState) → held ≡ Some c → c.slot ≡ s.slot →
    (x : AbstractCell) (cell : Cell) → Denotes s x cell → (imm : ℤ) (place : Place) → place_from may_reach x (address (stand_in x) imm) ≡ Some place →
    IsReached held x cell.value imm place
reached s ok may_reach held c is_held is_slot Zero cell d imm place e =
    let P : Cell → Type 0 = λ y. IsReached held Zero y.value imm place in
    subst P (sym d) (zero-reached may_reach held imm place e)
reached s ok may_reach held c is_held is_slot (PublicNumber value) cell d imm place e =
    let P : Cell → Type 0 = λ y. IsReached held (PublicNumber value) y.value imm place in
    subst P (sym d) (number-reached may_reach held value imm place e)
reached s ok may_reach held c is_held is_slot SlotAddress cell d imm place e =
    let sound = ok.slot in
    let below : c.slot < 8 = omega (arith, sound, is_slot) in
    let same : slot_address c.slot ≡ cell.value = ap slot_address is_slot ∙ sym (ap (λ y. y.value) d) in
    let P : Option ContextState → Type 0 = λ o. IsReached o SlotAddress cell.value imm place in
    let Q : ℕ → Type 0 = λ v. IsReached (Some c) SlotAddress v imm place in
    subst P (sym is_held) (subst Q same (slot-reached may_reach c imm place below e))
reached s ok may_reach held c is_held is_slot PublicAny cell d imm place e = absurd (cc e)
reached s ok may_reach held c is_held is_slot (TaskReg number) cell d imm place e = absurd (cc e)
reached s ok may_reach held c is_held is_slot (OldSlotWord index) cell d imm place e = absurd (cc e)
reached s ok may_reach held c is_held is_slot GivenCell cell d imm place e = absurd (cc e)
reached s ok may_reach held c is_held is_slot AnyTagged cell d imm place e = absurd (cc e)
