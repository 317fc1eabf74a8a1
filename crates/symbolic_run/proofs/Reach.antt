-- A word that an abstract access reaches by stand-ins is the one that the access on a hart reaches.
use Rattle.std.proofs.Common.{◌≡◌, ℕ, ◌+◌, ◌*◌, ◌-◌, ◌/◌, ◌%◌, ◌<◌, ◌≤◌, Bool, true, false, ◌&&◌, ◌==◌, nat_le, nat_lt, if◌then◌else◌, Option, Some, None, refl, sym, ap, subst, arith, eqb-true, leb-true, ltb-true, le-leb, lt-ltb, eq-eqb, ne_eqb}
use Rattle.std.proofs.lemmas.Bool.{and_parts}
use Rattle.isa_model.specs.Bits.{low_word, word_address}
use Rattle.isa_model.specs.declared.latch.Latch.TheVariants.{Mem}
use Rattle.hart_model.specs.declared.place.Place.{Place}
use Rattle.hart_model.specs.declared.place.Place.TheVariants as places
use Rattle.hart_model.specs.Cells.{zero_address, index_in, place_of, slot_place_of, data_place_of}
use Rattle.hart_model.specs.Context.{ContextState, slot_address, slot_len}
use Rattle.hart_model.specs.MachineStep.{machine_bases}
use Rattle.symbolic_run.specs.AbstractCell.{Zero, SlotAddress, PublicNumber}
use Rattle.symbolic_run.specs.AbstractEffect.{slot_word_if, reached_from, place_from}

pub some-if : (b : Bool) (x i : ℕ) → (if b then Some x else None) ≡ Some i → (b ≡ true) × (x ≡ i)
some-if true x i e = (refl, cc e)
some-if false x i e = absurd (cc e)

-- an address of a word of slot 0, with the word's index
pub record IsSlotWord (at i : ℕ) : Type 0 where
  pub low : slot_address 0 ≤ at
  pub high : at < slot_address 0 + 4 * slot_len
  pub aligned : (at - slot_address 0) % 4 ≡ 0
  pub index : (at - slot_address 0) / 4 ≡ i

pub index-parts : (at i : ℕ) → index_in (slot_address 0) slot_len at ≡ Some i → IsSlotWord at i
index-parts at i e =
    let within : Bool = nat_le (slot_address 0) at && nat_lt at (slot_address 0 + 4 * slot_len) in
    let t = some-if (within && ((at - slot_address 0) % 4 == 0)) ((at - slot_address 0) / 4) i e in
    let p = and_parts (nat_le (slot_address 0) at && nat_lt at (slot_address 0 + 4 * slot_len)) ((at - slot_address 0) % 4 == 0) t.0 in
    let q = and_parts (nat_le (slot_address 0) at) (nat_lt at (slot_address 0 + 4 * slot_len)) p.0 in
    record { low = leb-true _ _ q.0; high = ltb-true _ _ q.1; aligned = eqb-true _ _ p.1; index = t.1 }

-- the same offset in another slot is the address of the word of the same index
pub index-other : (slot at i : ℕ) → IsSlotWord at i → index_in (slot_address slot) slot_len (at + 160 * slot) ≡ Some i
index-other slot at i w =
    let low = w.low in
    let high = w.high in
    let p : nat_le (512 + 160 * slot) (at + 160 * slot) ≡ true = le-leb _ _ (omega arith) in
    let q : nat_lt (at + 160 * slot) (512 + 160 * slot + 144) ≡ true = lt-ltb _ _ (omega arith) in
    let t : at + 160 * slot - (512 + 160 * slot) ≡ at - 512 = omega arith in
    let z : ((at - 512) % 4 == 0) ≡ true = eq-eqb _ _ w.aligned in
    rw (p, q, t, z) (ap Some w.index)

-- sums from the slot's address stand as far apart as the slots do, where the one in slot 0 is of a word of slot 0
pub shifted : (slot k i : ℕ) → slot < 8 → IsSlotWord (word_address (low_word (slot_address 0 + k))) i →
    word_address (low_word (slot_address slot + k)) ≡ word_address (low_word (slot_address 0 + k)) + 160 * slot
shifted slot k i below w =
    let low : 512 ≤ (512 + k) % 4294967296 / 4 * 4 = w.low in
    let high : (512 + k) % 4294967296 / 4 * 4 < 656 = w.high in
    omega arith

-- so the word has the same index
pub slot-word-reached : (slot k i : ℕ) → slot < 8 → index_in (slot_address 0) slot_len (word_address (low_word (slot_address 0 + k))) ≡ Some i →
    index_in (slot_address slot) slot_len (word_address (low_word (slot_address slot + k))) ≡ Some i
slot-word-reached slot k i below e =
    let w = index-parts (word_address (low_word (slot_address 0 + k))) i e in
    let P : ℕ → Type 0 = λ at. index_in (slot_address slot) slot_len at ≡ Some i in
    subst P (sym (shifted slot k i below w)) (index-other slot (word_address (low_word (slot_address 0 + k))) i w)

-- from the slot's address an abstract access reaches a word of the slot, and from a number the word that is always 0
pub record IsSlotPlace (found : Option ℕ) (place : Place) : Type 0 where
  pub index : ℕ
  pub is_index : found ≡ Some index
  pub is_place : place ≡ places.SlotWord index

slot-word-some : (b : Bool) (i : ℕ) (place : Place) → slot_word_if b i ≡ Some place → place ≡ places.SlotWord i
slot-word-some true i place e = sym (cc e)
slot-word-some false i place e = absurd (cc e)

pub from-slot : (may_reach : ℕ → Bool) (b : Bool) (found data_word : Option ℕ) (place : Place) →
    reached_from may_reach SlotAddress (if b then Some places.Zero else slot_place_of found (data_place_of data_word)) ≡ Some place → IsSlotPlace found place
from-slot may_reach true found data_word place e = absurd (cc e)
from-slot may_reach false None None place e = absurd (cc e)
from-slot may_reach false None (Some j) place e = absurd (cc e)
from-slot may_reach false (Some i) data_word place e =
    record { index = i; is_index = refl; is_place = slot-word-some (may_reach i) i place e }

pub from-zero : (may_reach : ℕ → Bool) (b : Bool) (found data_word : Option ℕ) (place : Place) →
    reached_from may_reach Zero (if b then Some places.Zero else slot_place_of found (data_place_of data_word)) ≡ Some place →
    (b ≡ true) × (place ≡ places.Zero)
from-zero may_reach true found data_word place e = (refl, sym (cc e))
from-zero may_reach false None None place e = absurd (cc e)
from-zero may_reach false None (Some j) place e = absurd (cc e)
from-zero may_reach false (Some i) data_word place e = absurd (cc e)

pub from-number : (may_reach : ℕ → Bool) (value : ℕ) (b : Bool) (found data_word : Option ℕ) (place : Place) →
    reached_from may_reach (PublicNumber value) (if b then Some places.Zero else slot_place_of found (data_place_of data_word)) ≡ Some place →
    (b ≡ true) × (place ≡ places.Zero)
from-number may_reach value true found data_word place e = (refl, sym (cc e))
from-number may_reach value false None None place e = absurd (cc e)
from-number may_reach value false None (Some j) place e = absurd (cc e)
from-number may_reach value false (Some i) data_word place e = absurd (cc e)

-- the place of an access from the slot's address is that of the access on a hart that holds the slot
pub slot-place-reached : (may_reach : ℕ → Bool) (c : ContextState) (k : ℕ) (place : Place) → c.slot < 8 →
    place_from may_reach SlotAddress (low_word (slot_address 0 + k)) ≡ Some place →
    place_of (machine_bases (Some c)) (Mem (word_address (low_word (slot_address c.slot + k)))) ≡ Some place
slot-place-reached may_reach c k place below e =
    let at = word_address (low_word (slot_address 0 + k)) in
    let p = from-slot may_reach (at == zero_address) (index_in (slot_address 0) slot_len at) (index_in 0 0 at) place e in
    let w = index-parts at p.index p.is_index in
    let low : 512 ≤ (512 + k) % 4294967296 / 4 * 4 = w.low in
    let far : word_address (low_word (slot_address c.slot + k)) ≡ at + 160 * c.slot = shifted c.slot k p.index below w in
    let apart : (word_address (low_word (slot_address c.slot + k)) == zero_address) ≡ false = ne_eqb _ _ (omega (arith, far, low)) in
    let found = slot-word-reached c.slot k p.index below p.is_index in
    let same = p.is_place in
    rw (apart, found) (ap Some (sym same))

-- and from a known number, on any hart
pub zero-place-reached : (may_reach : ℕ → Bool) (held : Option ContextState) (at : ℕ) (place : Place) →
    place_from may_reach Zero at ≡ Some place → place_of (machine_bases held) (Mem (word_address at)) ≡ Some place
zero-place-reached may_reach held at place e =
    let a = word_address at in
    let p = from-zero may_reach (a == zero_address) (index_in (slot_address 0) slot_len a) (index_in 0 0 a) place e in
    rw (p.0, p.1) refl

pub number-place-reached : (may_reach : ℕ → Bool) (held : Option ContextState) (value at : ℕ) (place : Place) →
    place_from may_reach (PublicNumber value) at ≡ Some place → place_of (machine_bases held) (Mem (word_address at)) ≡ Some place
number-place-reached may_reach held value at place e =
    let a = word_address at in
    let p = from-number may_reach value (a == zero_address) (index_in (slot_address 0) slot_len a) (index_in 0 0 a) place e in
    rw (p.0, p.1) refl
