-- Places and latches name each other.
use Rattle.std.proofs.Common.{◌≡◌, ℕ, ◌+◌, ◌-◌, ◌*◌, ◌/◌, ◌%◌, ◌<◌, ◌==◌, Bool, true, false, ◌&&◌, nat_le, nat_lt, length, Option, Some, None, if◌then◌else◌, refl, ap, sym, ◌∙◌, subst, arith}
use Rattle.std.proofs.lemmas.Bool.{eqb-true, ne_eqb, leb-true, ltb-true, and_parts}
use Rattle.isa_model.specs.declared.latch.Latch.{Latch}
use Rattle.isa_model.specs.declared.latch.Latch.TheVariants as latches
use Rattle.isa_model.specs.LatchOrder.{IsLatch}
use Rattle.hart_model.specs.declared.place.Place.{Place}
use Rattle.hart_model.specs.declared.place.Place.TheVariants.{Reg, PortA, PortB, Res, Load, Store, Scr, Mul, Zero, SlotWord, DataWord}
use Rattle.hart_model.specs.Cells.{zero_address, index_in, data_place_of, slot_place_of, latch_of, place_of}
use Rattle.hart_model.specs.Context.{ContextState, slot_len, slot_address}
use Rattle.hart_model.specs.HartState.{bases_of}
use Rattle.hart_model.specs.PlaceLaws.{HasPlace, IsHeldValid, PlacesHaveLatches}
use Rattle.hart_model.proofs.UserWrites.{index_past, index_here}

-- a word of a list is found by its address
word_is_found : (base len i : ℕ) → i < len → index_in base len (base + 4 * i) ≡ Some i
word_is_found base len i within =
    index_here base len (base + 4 * i) (omega arith) (omega arith) (omega arith) ∙ ap (λ (n : ℕ). Some n) (omega arith)

slot_word : (c : ContextState) (i : ℕ) → IsHeldValid (Some c) → i < slot_len → place_of (bases_of (Some c)) (latches.Mem (slot_address c.slot + 4 * i)) ≡ Some (SlotWord i)
slot_word c i valid within =
    let slot = valid.1 in
    let other : (slot_address c.slot + 4 * i == zero_address) ≡ false = ne_eqb _ zero_address (λ e. absurd (omega (arith, e))) in
    let found = word_is_found (slot_address c.slot) slot_len i within in
    rw (other, found) refl

data_word : (c : ContextState) (i : ℕ) → IsHeldValid (Some c) → i < length c.body.data_words → place_of (bases_of (Some c)) (latches.Mem (c.body.data_at + 4 * i)) ≡ Some (DataWord i)
data_word c i valid within =
    let above = valid.0.data_above in
    let slot = valid.1 in
    let other : (c.body.data_at + 4 * i == zero_address) ≡ false = ne_eqb _ zero_address (λ e. absurd (omega (arith, e, above))) in
    let past = index_past (slot_address c.slot) slot_len (c.body.data_at + 4 * i) (omega (arith, above, slot)) in
    let found = word_is_found c.body.data_at (length c.body.data_words) i within in
    rw (other, past, found) refl

by_latch : (held : Option ContextState) (p : Place) → IsHeldValid held → HasPlace held p → place_of (bases_of held) (latch_of (bases_of held) p) ≡ Some p
by_latch (Some c) (SlotWord i) valid has = slot_word c i valid has
by_latch (Some c) (DataWord i) valid has = data_word c i valid has
by_latch None (SlotWord i) valid has = absurd has
by_latch None (DataWord i) valid has = absurd has
by_latch held (Reg r) valid has = refl
by_latch held PortA valid has = refl
by_latch held PortB valid has = refl
by_latch held Res valid has = refl
by_latch held Load valid has = refl
by_latch held Store valid has = refl
by_latch held Scr valid has = refl
by_latch held Mul valid has = refl
by_latch held Zero valid has = refl

-- what is found among words is at its address
record IsWordAt (base len at i : ℕ) : Type 0 where
  is : base + 4 * i ≡ at
  within : i < len

found_is_at : (base len at i : ℕ) → index_in base len at ≡ Some i → IsWordAt base len at i
found_is_at base len at i = go (nat_le base at && nat_lt at (base + 4 * len) && ((at - base) % 4 == 0)) refl
  where
    go : (b : Bool) → (nat_le base at && nat_lt at (base + 4 * len) && ((at - base) % 4 == 0)) ≡ b → (if b then Some ((at - base) / 4) else None) ≡ Some i → IsWordAt base len at i
    go true test found =
        let parts = and_parts (nat_le base at && nat_lt at (base + 4 * len)) ((at - base) % 4 == 0) test in
        let both = and_parts (nat_le base at) (nat_lt at (base + 4 * len)) parts.0 in
        let low = leb-true base at both.0 in
        let high = ltb-true at (base + 4 * len) both.1 in
        let even = eqb-true ((at - base) % 4) 0 parts.1 in
        let index : (at - base) / 4 ≡ i = cc in
        record { is = omega (arith, low, even, index); within = omega (arith, low, high, even, index) }
    go false test found = absurd cc

-- a latch of memory, by where it was found
module _ (held : Option ContextState) (at : ℕ) where
  abbrev Names : Place → Type 0
  Names p = (latch_of (bases_of held) p ≡ latches.Mem at) × HasPlace held p

  of_slot : (i : ℕ) → index_in (bases_of held).slot_at (bases_of held).slot_len at ≡ Some i → Names (SlotWord i)
  of_slot i found = go held (found_is_at (bases_of held).slot_at (bases_of held).slot_len at i found)
    where
      go : (o : Option ContextState) → IsWordAt (bases_of o).slot_at (bases_of o).slot_len at i → (latch_of (bases_of o) (SlotWord i) ≡ latches.Mem at) × HasPlace o (SlotWord i)
      go None w = absurd (omega (arith, w.within))
      go (Some c) w = (ap (λ (n : ℕ). latches.Mem n) w.is, w.within)

  of_data : (i : ℕ) → index_in (bases_of held).data_at (bases_of held).data_len at ≡ Some i → Names (DataWord i)
  of_data i found = go held (found_is_at (bases_of held).data_at (bases_of held).data_len at i found)
    where
      go : (o : Option ContextState) → IsWordAt (bases_of o).data_at (bases_of o).data_len at i → (latch_of (bases_of o) (DataWord i) ≡ latches.Mem at) × HasPlace o (DataWord i)
      go None w = absurd (omega (arith, w.within))
      go (Some c) w = (ap (λ (n : ℕ). latches.Mem n) w.is, w.within)

  by_index : (slot data_word : Option ℕ) (p : Place) → ((i : ℕ) → slot ≡ Some i → Names (SlotWord i)) → ((i : ℕ) → data_word ≡ Some i → Names (DataWord i))
      → slot_place_of slot (data_place_of data_word) ≡ Some p → Names p
  by_index (Some i) data_word p in_slot in_data found = let is : SlotWord i ≡ p = cc in subst (λ (q : Place). Names q) is (in_slot i refl)
  by_index None (Some i) p in_slot in_data found = let is : DataWord i ≡ p = cc in subst (λ (q : Place). Names q) is (in_data i refl)
  by_index None None p in_slot in_data found = absurd cc

  zero_has_place : HasPlace held Zero
  zero_has_place = go held
    where
      go : (o : Option ContextState) → HasPlace o Zero
      go None = tt
      go (Some c) = tt

  of_memory : (p : Place) → place_of (bases_of held) (latches.Mem at) ≡ Some p → Names p
  of_memory p = go (at == zero_address) refl
    where
      go : (b : Bool) → (at == zero_address) ≡ b
          → (if b then Some Zero else slot_place_of (index_in (bases_of held).slot_at (bases_of held).slot_len at) (data_place_of (index_in (bases_of held).data_at (bases_of held).data_len at))) ≡ Some p
          → Names p
      go true test found =
          let is : Zero ≡ p = cc in
          subst (λ (q : Place). Names q) is (ap (λ (n : ℕ). latches.Mem n) (sym (eqb-true at zero_address test)), zero_has_place)
      go false test found = by_index (index_in (bases_of held).slot_at (bases_of held).slot_len at) (index_in (bases_of held).data_at (bases_of held).data_len at) p of_slot of_data found

by_place : (held : Option ContextState) (l : Latch) (p : Place) → IsLatch l → place_of (bases_of held) l ≡ Some p → (latch_of (bases_of held) p ≡ l) × HasPlace held p
by_place held (latches.Mem at) p is_latch found = of_memory held at p found
by_place held (latches.Reg r) p is_latch found = let is : Reg r ≡ p = cc in subst (λ (q : Place). (latch_of (bases_of held) q ≡ latches.Reg r) × HasPlace held q) is (refl, is_latch)
by_place held latches.PortA p is_latch found = let is : PortA ≡ p = cc in subst (λ (q : Place). (latch_of (bases_of held) q ≡ latches.PortA) × HasPlace held q) is (refl, tt)
by_place held latches.PortB p is_latch found = let is : PortB ≡ p = cc in subst (λ (q : Place). (latch_of (bases_of held) q ≡ latches.PortB) × HasPlace held q) is (refl, tt)
by_place held latches.Res p is_latch found = let is : Res ≡ p = cc in subst (λ (q : Place). (latch_of (bases_of held) q ≡ latches.Res) × HasPlace held q) is (refl, tt)
by_place held latches.Load p is_latch found = let is : Load ≡ p = cc in subst (λ (q : Place). (latch_of (bases_of held) q ≡ latches.Load) × HasPlace held q) is (refl, tt)
by_place held latches.Store p is_latch found = let is : Store ≡ p = cc in subst (λ (q : Place). (latch_of (bases_of held) q ≡ latches.Store) × HasPlace held q) is (refl, tt)
by_place held latches.Scr p is_latch found = let is : Scr ≡ p = cc in subst (λ (q : Place). (latch_of (bases_of held) q ≡ latches.Scr) × HasPlace held q) is (refl, tt)
by_place held latches.Mul p is_latch found = let is : Mul ≡ p = cc in subst (λ (q : Place). (latch_of (bases_of held) q ≡ latches.Mul) × HasPlace held q) is (refl, tt)

pub places_have_latches : PlacesHaveLatches
places_have_latches = record { place = by_latch; latch = by_place }
