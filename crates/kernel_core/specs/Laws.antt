-- How steps under the plans make up the entries of an order (this project's own). Each is the contract of a law in `src/laws.rt`.
use Rattle.std.specs.Prelude.{◌≡◌, ℕ, suc, List, ◌++◌, ◌∷◌, [], Some, None}
use Rattle.core_model.specs.declared.action.Action.{Action}
use Rattle.core_model.specs.declared.loaded.Loaded.{Loaded}
use Rattle.core_invariant.specs.KernelStates.{KernelParts}
use Rattle.kernel_core.specs.History.{core_of}
use Rattle.kernel_core.specs.PacedHistory.{PacedHistory, next_steps_of, next_entries_of, with_steps, stepped, acted, ordered, paced_at_boot}

-- An order is told entry by entry.
pub record OrdersGrow : Type 0 where
  pub none : (loaded : Loaded) (kernel : KernelParts) → ordered loaded kernel [] ≡ paced_at_boot loaded kernel
  pub more : (loaded : Loaded) (kernel : KernelParts) (order : List ℕ) (hart : ℕ) → acted (ordered loaded kernel order) hart ≡ ordered loaded kernel (order ++ hart ∷ [])

-- The steps of an entry are one step, and the others unless this one made the action.
pub record EntriesAreSteps : Type 0 where
  pub last : (t : PacedHistory) (hart more : ℕ) (action : Action) → (next_steps_of t hart 1).action ≡ Some action
      → with_steps t hart (next_steps_of t hart (suc more)) ≡ stepped t hart
  pub further : (t : PacedHistory) (hart more : ℕ) → (next_steps_of t hart 1).action ≡ None
      → with_steps t hart (next_steps_of t hart (suc more)) ≡ with_steps (stepped t hart) hart (next_steps_of (stepped t hart) hart more)

-- The core of what was told with steps more is the core after them, and their entries are at the end of its log.
pub record ToldIsStepped : Type 0 where
  pub core : (t : PacedHistory) (hart most : ℕ) → core_of (with_steps t hart (next_steps_of t hart most)).history ≡ (next_steps_of t hart most).core
  pub log : (t : PacedHistory) (hart most : ℕ) → (next_steps_of t hart most).core.log ≡ (core_of t.history).log ++ next_entries_of t hart most
