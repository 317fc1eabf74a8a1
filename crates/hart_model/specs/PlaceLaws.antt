-- How places and latches name each other. It is the contract of a law in `src/place_laws.rt`.
use Rattle.std.specs.Prelude.{◌≡◌, ◌<◌, length, Option, Some, None}
use Rattle.isa_model.specs.declared.latch.Latch.{Latch}
use Rattle.isa_model.specs.LatchOrder.{IsLatch}
use Rattle.isa_model.specs.TaskPlaces.{IsValidTask}
use Rattle.hart_model.specs.declared.place.Place.{Place}
use Rattle.hart_model.specs.declared.place.Place.TheVariants.{Reg, SlotWord, DataWord}
use Rattle.hart_model.specs.Cells.{latch_of, place_of}
use Rattle.hart_model.specs.Context.{ContextState, task_of, slot_len}
use Rattle.hart_model.specs.HartState.{bases_of}

-- the places that a hart has, by what it holds
abbrev pub HasPlace : Option ContextState → Place → Type 0
HasPlace held (Reg r) = r < 32
HasPlace (Some c) (SlotWord i) = i < slot_len
HasPlace (Some c) (DataWord i) = i < length c.body.data_words
HasPlace None (SlotWord i) = ⊥
HasPlace None (DataWord i) = ⊥
HasPlace held place = Unit {0}

-- what is held is a valid task in one of the eight slots
abbrev pub IsHeldValid : Option ContextState → Type 0
IsHeldValid None = Unit {0}
IsHeldValid (Some c) = IsValidTask (task_of c.body) × (c.slot < 8)

-- Each place of a hart has a latch of its own, by which it is found again; and a latch that has a place is the latch of this place.
pub record PlacesHaveLatches : Type 0 where
  pub place : (held : Option ContextState) (p : Place) → IsHeldValid held → HasPlace held p → place_of (bases_of held) (latch_of (bases_of held) p) ≡ Some p
  pub latch : (held : Option ContextState) (l : Latch) (p : Place) → IsLatch l → place_of (bases_of held) l ≡ Some p → (latch_of (bases_of held) p ≡ l) × HasPlace held p
