-- How the run by an order ends, where an entry may not be legal and the log may be full (this project's own).
use Rattle.std.specs.Prelude.{◌≡◌, ◌↔◌, ℕ, ◌+◌, Bool, false, not, ◌&&◌, List, [], ◌∷◌, ◌++◌, length, get_or, nat_lt, Option, if◌then◌else◌}
use Rattle.core_model.specs.declared.plan.Plan.{Plan}
use Rattle.core_model.specs.declared.loaded.Loaded.{Loaded}
use Rattle.core_model.specs.KernelWords.{KernelCodeState}
use Rattle.core_model.specs.Core.{boot_core}
use Rattle.core_model.specs.Orders.{CoarseState, boot_pace, boot_coarse, steps_of_entry, after_entry, fine_of, IsLegalEntry, IsLegal}
use Rattle.order_laws.specs.CoarseRuns.{coarse_state}
use Rattle.order_laws.specs.LongLogs.{is_past}

-- It has run all of the order; it came to an entry that isn't legal, at this place from 0; or it came to an event before which the log has
-- too many entries.
pub data OrderEnd : Type 0 where
  Done : OrderEnd
  Illegal : ℕ → OrderEnd
  Full : OrderEnd

-- whether an entry names a hart that there is and that has not found nothing
abbrev pub is_legal_entry : CoarseState → ℕ → Bool
is_legal_entry co hart = nat_lt hart (length co.core.harts) && not (get_or co.paces hart boot_pace).has_stopped

-- From a place of the order on: an entry is judged before its events are.
unfoldable pub end_from : Option ℕ → List ℕ → List Plan → CoarseState → ℕ → List ℕ → OrderEnd
end_from most code plans co at [] = Done
end_from most code plans co at (hart ∷ order) =
    if not (is_legal_entry co hart) then Illegal at
    else if is_past most code co.core (steps_of_entry code plans co hart).events then Full
    else end_from most code plans (after_entry code plans co hart) (at + 1) order

-- how the run of a loaded bundle by an order ends
abbrev pub end_of_order : Option ℕ → Loaded → KernelCodeState → List ℕ → OrderEnd
end_of_order most loaded kernel order = end_from most kernel.words loaded.plans (boot_coarse loaded kernel) 0 order

-- the log has room for the run by an order
abbrev pub HasRoomFor : Option ℕ → Loaded → KernelCodeState → List ℕ → Type 0
HasRoomFor most loaded kernel order = is_past most kernel.words (boot_core loaded kernel) (fine_of loaded kernel order) ≡ false

-- The order is a front, which is legal and has room, an entry, and a rest.
pub record ComesTo (most : Option ℕ) (loaded : Loaded) (kernel : KernelCodeState) (order front : List ℕ) (hart : ℕ) : Type 0 where
  pub rest : List ℕ
  pub parts : order ≡ front ++ hart ∷ rest
  pub legal : IsLegal loaded kernel front
  pub room : HasRoomFor most loaded kernel front

-- All of an order is run exactly where it is legal and the log has room for it. The first entry that isn't legal ends the run, at its place,
-- and so does the first one that the log has no room for, whichever is met first.
pub record IsJudged (most : Option ℕ) (loaded : Loaded) (kernel : KernelCodeState) (order : List ℕ) : Type 0 where
  pub done : (end_of_order most loaded kernel order ≡ Done) ↔ (IsLegal loaded kernel order × HasRoomFor most loaded kernel order)
  pub illegal : (at : ℕ) → (end_of_order most loaded kernel order ≡ Illegal at)
      ↔ ((front : List ℕ) × (hart : ℕ) × (length front ≡ at) × ComesTo most loaded kernel order front hart
      × (IsLegalEntry (coarse_state loaded kernel front) hart → ⊥))
  pub full : (end_of_order most loaded kernel order ≡ Full)
      ↔ ((front : List ℕ) × (hart : ℕ) × ComesTo most loaded kernel order front hart × IsLegalEntry (coarse_state loaded kernel front) hart
      × (HasRoomFor most loaded kernel (front ++ hart ∷ []) → ⊥))

abbrev pub OrdersAreJudged : Type 0
OrdersAreJudged = (most : Option ℕ) (loaded : Loaded) (kernel : KernelCodeState) (order : List ℕ) → IsJudged most loaded kernel order
