-- What holds of coarse runs (this project's own). Each is the contract of a law in `src/laws.rt`.
use Rattle.std.specs.Prelude.{◌≡◌, ◌↔◌, ℕ, ◌+◌, ◌<◌, ◌≤◌, false, List, ◌∷◌, [], ◌++◌, length, Some}
use Rattle.core_model.specs.declared.action.Action.{Action}
use Rattle.core_model.specs.declared.event.Event.{Event}
use Rattle.core_model.specs.declared.plan.Plan.{Plan}
use Rattle.core_model.specs.declared.loaded.Loaded.{Loaded}
use Rattle.core_model.specs.KernelWords.{KernelCodeState}
use Rattle.core_model.specs.Loaded.{IsLoaded, IsWithinLimits, action_bound_of}
use Rattle.core_model.specs.LowEquivalence.{AreAlike, AgreePublicly}
use Rattle.core_model.specs.Core.{log_of}
use Rattle.core_model.specs.Orders.{CoarseState, plan_at, max_steps, boot_coarse, steps_of_entry, after_entry, fine_of, coarse_after, IsLegalEntry, IsLegalFrom, IsLegal}
use Rattle.core_invariant.specs.KernelStates.{KernelParts, IsKernel, IsAlikeKernel}
use Rattle.order_laws.specs.CoarseRuns.{coarse_from, coarse_state, times_in, HartShare, IsShareOf, AreSharesWhole, step_count}
use Rattle.order_laws.specs.OwnSteps.{AtAction, own_steps, acted_steps}
use Rattle.order_laws.specs.SteppedRuns.{stepped_from, AreLegalSteps, ComesOn}
use Rattle.order_laws.specs.Potential.{potential_of}
use Rattle.order_laws.specs.CoarseInvariant.{IsCoarseKept}

-- The core between the entries of an order is the one that the order's events leave.
abbrev pub CoarseStatesAreCores : Type 0
CoarseStatesAreCores =
    (loaded : Loaded) (kernel : KernelCodeState) (order : List ℕ) → (coarse_state loaded kernel order).core ≡ coarse_after loaded kernel order

-- Entries of other harts leave a hart's share as it is: it depends on the order only up to the hart's own last entry.
abbrev pub SharesStay : Type 0
SharesStay = (k : KernelParts) → IsKernel k → (loaded : Loaded) → IsLoaded loaded → (seen rest : List ℕ) (number : ℕ) (s : HartShare)
    → times_in number rest ≡ 0 → IsShareOf (coarse_state loaded k.code seen) number s → IsShareOf (coarse_state loaded k.code (seen ++ rest)) number s

-- After every list of events each entry of the log is in the share of exactly one of the harts.
abbrev pub SharesMakeUpLogs : Type 0
SharesMakeUpLogs = (k : KernelParts) → IsKernel k → (loaded : Loaded) → IsLoaded loaded → (events : List Event)
    → AreSharesWhole loaded.harts (log_of loaded k.code events)

-- The coarse run of a loaded bundle is kept at boot, and along every legal order from where it is kept.
pub record CoarseRunsAreKept : Type 0 where
  pub boots : (k : KernelParts) → IsKernel k → (loaded : Loaded) → IsLoaded loaded → IsCoarseKept k loaded (boot_coarse loaded k.code)
  pub orders : (k : KernelParts) → IsKernel k → (loaded : Loaded) → IsWithinLimits loaded → (co : CoarseState) → IsCoarseKept k loaded co
      → (order : List ℕ) → IsLegalFrom k.code.words loaded.plans co order → IsCoarseKept k loaded (coarse_from k.code.words loaded.plans co order)

-- An entry makes a queue action, by no more than so many steps; the board's order grows by its hart.
pub record Acts (code : List ℕ) (plans : List Plan) (co : CoarseState) (hart : ℕ) : Type 0 where
  pub action : Action
  pub acts : (steps_of_entry code plans co hart).action ≡ Some action
  pub steps : step_count (steps_of_entry code plans co hart).events ≤ max_steps
  pub order : (after_entry code plans co hart).core.board.order ≡ co.core.board.order ++ hart ∷ []

-- Each legal entry of a coarse run that is kept does.
abbrev pub EachEntryActs : Type 0
EachEntryActs = (k : KernelParts) → IsKernel k → (loaded : Loaded) → IsWithinLimits loaded → (co : CoarseState) → IsCoarseKept k loaded co
    → (hart : ℕ) → IsLegalEntry co hart → Acts k.code.words loaded.plans co hart

-- It adds at most 30,000 entries to the log.
abbrev pub EntriesAreFew : Type 0
EntriesAreFew = (k : KernelParts) → IsKernel k → (loaded : Loaded) → IsWithinLimits loaded → (co : CoarseState) → IsCoarseKept k loaded co
    → (hart : ℕ) → IsLegalEntry co hart → length (after_entry k.code.words loaded.plans co hart).core.log ≤ length co.core.log + 30000

-- The order of the board is the order.
abbrev pub BoardsTellOrders : Type 0
BoardsTellOrders = (k : KernelParts) → IsKernel k → (loaded : Loaded) → IsLoaded loaded → (order : List ℕ) → IsLegal loaded k.code order
    → (coarse_after loaded k.code order).board.order ≡ order

-- Each legal entry lowers the potential, so that no more entries follow than it says; at boot it is the bound of the bundle.
pub record EntriesLowerThePotential : Type 0 where
  pub boots : (loaded : Loaded) (kernel : KernelCodeState) → IsWithinLimits loaded
      → potential_of loaded.plans (boot_coarse loaded kernel) ≡ action_bound_of loaded
  pub entries : (k : KernelParts) → IsKernel k → (loaded : Loaded) → IsWithinLimits loaded → (co : CoarseState) → IsCoarseKept k loaded co
      → (hart : ℕ) → IsLegalEntry co hart → potential_of loaded.plans (after_entry k.code.words loaded.plans co hart) < potential_of loaded.plans co
  pub orders : (k : KernelParts) → IsKernel k → (loaded : Loaded) → IsWithinLimits loaded → (co : CoarseState) → IsCoarseKept k loaded co
      → (order : List ℕ) → IsLegalFrom k.code.words loaded.plans co order → length order ≤ potential_of loaded.plans co

-- A legal order has no more entries than the bound of its bundle.
abbrev pub LegalOrdersAreBounded : Type 0
LegalOrdersAreBounded = (k : KernelParts) → IsKernel k → (loaded : Loaded) → IsLoaded loaded → (order : List ℕ)
    → IsLegal loaded k.code order → length order ≤ action_bound_of loaded

-- A hart comes to its next action by its own steps, which are those of its entry in the core; until then it makes few entries of the log.
pub record ComesToAction (code : List ℕ) (plans : List Plan) (co : CoarseState) (number : ℕ) (s : HartShare) : Type 0 where
  pub at : AtAction
  pub own : own_steps code (plan_at plans number) s.pace number max_steps s.hart ≡ Some at
  pub entry : steps_of_entry code plans co number ≡ acted_steps code co.core number at
  pub few : length at.probes + 8 ≤ 30000

-- So it is of each hart of a coarse run that is kept, unless it has found nothing.
abbrev pub HartsComeToActions : Type 0
HartsComeToActions = (k : KernelParts) → IsKernel k → (loaded : Loaded) → IsWithinLimits loaded → (co : CoarseState) → IsCoarseKept k loaded co
    → (number : ℕ) (s : HartShare) → IsShareOf co number s → s.pace.has_stopped ≡ false → ComesToAction k.code.words loaded.plans co number s

-- Two bundles stand for the same events by an order, which is legal for both or for neither, and their coarse logs agree publicly.
pub record RunAlike (k : KernelParts) (loaded other : Loaded) (order : List ℕ) : Type 0 where
  pub events : fine_of loaded k.code order ≡ fine_of other k.code order
  pub legal : IsLegal loaded k.code order ↔ IsLegal other k.code order
  pub logs : AgreePublicly (coarse_after loaded k.code order).log (coarse_after other k.code order).log

-- With a kernel whose parts do alike on harts that are alike, so it is of alike bundles and every order.
abbrev pub AlikeBundlesRunAlike : Type 0
AlikeBundlesRunAlike =
    (k : KernelParts) → IsKernel k → IsAlikeKernel k → (loaded other : Loaded) → IsLoaded loaded → IsLoaded other → AreAlike loaded other
    → (order : List ℕ) → RunAlike k loaded other order

-- Wherever the harts are in their steps, each that has not found nothing comes on to its queue action.
abbrev pub StepsComeToActions : Type 0
StepsComeToActions =
    (k : KernelParts) → IsKernel k → (loaded : Loaded) → IsLoaded loaded → (steps : List ℕ)
    → AreLegalSteps k.code.words loaded.plans (boot_coarse loaded k.code) steps
    → (hart : ℕ) → IsLegalEntry (stepped_from k.code.words loaded.plans (boot_coarse loaded k.code) steps) hart
    → ComesOn k.code.words loaded.plans (stepped_from k.code.words loaded.plans (boot_coarse loaded k.code) steps) hart
