-- The places that a hart has at the moment (this project's own).
use Rattle.std.specs.Prelude.{◌<◌}
use Rattle.hart_model.specs.declared.place.Place.{Place}
use Rattle.hart_model.specs.declared.place.Place.TheVariants.{SlotWord, DataWord}
use Rattle.hart_model.specs.Cells.{Bases}

-- a slot word and a data word is one of those that there are
abbrev pub IsPlaceThere : Bases → Place → Type 0
IsPlaceThere b (SlotWord i) = i < b.slot_len
IsPlaceThere b (DataWord i) = i < b.data_len
IsPlaceThere b place = Unit {0}
