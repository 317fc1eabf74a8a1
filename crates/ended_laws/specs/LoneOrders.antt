-- Orders of hart 0 alone, and which order a board has (this project's own).
use Rattle.std.specs.Prelude.{◌≡◌, ℕ, true, List, length, get_or}
use Rattle.std.specs.List.{AllByRecursion}
use Rattle.core_model.specs.declared.loaded.Loaded.{Loaded}
use Rattle.core_model.specs.KernelWords.{KernelCodeState}
use Rattle.core_model.specs.Loaded.{IsLoaded}
use Rattle.core_model.specs.Orders.{boot_pace, coarse_after, IsLegal}
use Rattle.core_invariant.specs.KernelStates.{KernelParts, IsKernel}
use Rattle.order_laws.specs.CoarseRuns.{coarse_state}
use Rattle.ended_laws.specs.Ending.{IsOver}

-- An order of hart 0 alone: it is legal, and after it hart 0 has found nothing.
pub record IsLoneOrder (code : KernelCodeState) (loaded : Loaded) (order : List ℕ) : Type 0 where
  pub legal : IsLegal loaded code order
  pub alone : AllByRecursion (λ hart. hart ≡ 0) order
  pub stopped : (get_or (coarse_state loaded code order).paces 0 boot_pace).has_stopped ≡ true

-- There is one at most.
abbrev pub LoneOrdersAreOne : Type 0
LoneOrdersAreOne = (code : KernelCodeState) (loaded : Loaded) (o p : List ℕ) → IsLoneOrder code loaded o → IsLoneOrder code loaded p → o ≡ p

-- Where the bundle has one hart, all tasks have ended after it.
abbrev pub LoneOrdersEndAll : Type 0
LoneOrdersEndAll = (k : KernelParts) → IsKernel k → (loaded : Loaded) → IsLoaded loaded → loaded.harts ≡ 1 → (order : List ℕ)
    → IsLoneOrder k.code loaded order → IsOver (length loaded.tasks) (coarse_after loaded k.code order).board

-- A board has the order of one legal order at most.
abbrev pub OrdersAreOnBoards : Type 0
OrdersAreOnBoards = (k : KernelParts) → IsKernel k → (loaded : Loaded) → IsLoaded loaded → (o p : List ℕ)
    → IsLegal loaded k.code o → IsLegal loaded k.code p
    → (coarse_after loaded k.code o).board.order ≡ (coarse_after loaded k.code p).board.order → o ≡ p
