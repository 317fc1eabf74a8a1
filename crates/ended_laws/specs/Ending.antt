-- Where a coarse run has come to its end (this project's own): all harts have found nothing, and all tasks have ended.
use Rattle.std.specs.Prelude.{◌≡◌, ℕ, ◌+◌, ◌<◌, ◌⊎◌, true, List, [], ◌∷◌, ◌++◌, length, get_or, Some}
use Rattle.std.specs.List.{AllByRecursion}
use Rattle.core_model.specs.declared.action.Action.TheVariants as actions
use Rattle.core_model.specs.declared.event.Event.{Event}
use Rattle.core_model.specs.declared.home.Home.TheVariants.{Ended}
use Rattle.core_model.specs.declared.loaded.Loaded.{Loaded}
use Rattle.core_model.specs.Board.{BoardState, all_ready}
use Rattle.core_model.specs.Core.{core_after}
use Rattle.core_model.specs.Homes.{home_of}
use Rattle.core_model.specs.KernelWords.{KernelCodeState}
use Rattle.core_model.specs.Loaded.{IsLoaded}
use Rattle.core_model.specs.Orders.{CoarseState, boot_pace, steps_of_entry, coarse_after, IsLegal}
use Rattle.core_invariant.specs.KernelStates.{KernelParts, IsKernel}
use Rattle.order_laws.specs.CoarseRuns.{coarse_state}

-- No task waits, or as many contexts are ready or out as there are slots.
abbrev pub AreSlotsUsed : ℕ → BoardState → Type 0
AreSlotsUsed slots b = (b.waiting ≡ []) ⊎ (length (all_ready b.ready) + length b.out ≡ slots)

-- After every list of events it is so.
abbrev pub SlotsStayUsed : Type 0
SlotsStayUsed = (k : KernelParts) → IsKernel k → (loaded : Loaded) → IsLoaded loaded → (events : List Event)
    → AreSlotsUsed loaded.slots (core_after loaded k.code events).board

-- Each of so many harts has found nothing.
abbrev pub HaveAllStopped : ℕ → CoarseState → Type 0
HaveAllStopped harts co = (hart : ℕ) → hart < harts → (get_or co.paces hart boot_pace).has_stopped ≡ true

-- A board of so many tasks, of which each has ended: nothing waits, nothing is ready, and nothing is out.
pub record IsOver (tasks : ℕ) (b : BoardState) : Type 0 where
  pub waiting : b.waiting ≡ []
  pub ready : all_ready b.ready ≡ []
  pub out : b.out ≡ []
  pub ended : (t : ℕ) → t < tasks → home_of b t ≡ Some Ended

-- After a legal order after which all harts have found nothing it is so.
abbrev pub StoppedRunsAreOver : Type 0
StoppedRunsAreOver = (k : KernelParts) → IsKernel k → (loaded : Loaded) → IsLoaded loaded → (order : List ℕ) → IsLegal loaded k.code order
    → HaveAllStopped loaded.harts (coarse_state loaded k.code order)
    → IsOver (length loaded.tasks) (coarse_after loaded k.code order).board

-- The entry of this hart after an order is a take that finds nothing.
abbrev pub FindsNothing : Loaded → KernelCodeState → List ℕ → ℕ → Type 0
FindsNothing loaded code before hart =
    (steps_of_entry code.words loaded.plans (coarse_state loaded code before) hart).action ≡ Some actions.Empty

-- An order ends with such an entry.
pub record EndsByFindingNothing (loaded : Loaded) (code : KernelCodeState) (order : List ℕ) : Type 0 where
  pub before : List ℕ
  pub hart : ℕ
  pub last : order ≡ before ++ hart ∷ []
  pub finds : FindsNothing loaded code before hart

-- So does a legal order after which all harts have found nothing.
abbrev pub StoppedRunsEndEmpty : Type 0
StoppedRunsEndEmpty = (k : KernelParts) → IsKernel k → (loaded : Loaded) → IsLoaded loaded → (order : List ℕ) → IsLegal loaded k.code order
    → HaveAllStopped loaded.harts (coarse_state loaded k.code order)
    → EndsByFindingNothing loaded k.code order

-- A hart that has such an entry in a legal order has found nothing after the order.
abbrev pub EmptyTakesStop : Type 0
EmptyTakesStop = (k : KernelParts) → IsKernel k → (loaded : Loaded) → IsLoaded loaded → (before rest : List ℕ) (hart : ℕ)
    → IsLegal loaded k.code (before ++ hart ∷ rest) → FindsNothing loaded k.code before hart
    → (get_or (coarse_state loaded k.code (before ++ hart ∷ rest)).paces hart boot_pace).has_stopped ≡ true

-- The entries of a legal order are numbers of harts.
abbrev pub LegalOrdersNameHarts : Type 0
LegalOrdersNameHarts = (k : KernelParts) → IsKernel k → (loaded : Loaded) → IsLoaded loaded → (order : List ℕ) → IsLegal loaded k.code order
    → AllByRecursion (λ hart. hart < loaded.harts) order
