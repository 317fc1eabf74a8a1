-- The latch writes of a course (this project's own).
use Rattle.std.specs.Prelude.{ℕ, zero, suc, List, [], ◌++◌, map}
use Rattle.isa_model.specs.declared.latch.Latch.{Latch}
use Rattle.probe_order.specs.declared.places.Place.{Place}

abbrev pub place_of : ℕ → Latch → Place
place_of step latch = record { step = step; latch = latch }

-- the writes of the first n steps, by the latches of each
unfoldable pub places_in : (ℕ → List Latch) → ℕ → List Place
places_in latches zero = []
places_in latches (suc n) = places_in latches n ++ map (place_of n) (latches n)
