-- The two bands of ready tasks over whole runs (this project's own).
use Rattle.std.specs.Prelude.{◌≡◌, ℕ, false, List, All, get_or, Some, ◌==◌}
use Rattle.hart_model.specs.Context.{ContextState}
use Rattle.core_model.specs.declared.event.Event.{Event}
use Rattle.core_model.specs.declared.action.Action.TheVariants as actions
use Rattle.core_model.specs.declared.loaded.Loaded.{Loaded}
use Rattle.core_model.specs.KernelWords.{KernelCodeState}
use Rattle.core_model.specs.Board.{all_ready, goes_first}
use Rattle.core_model.specs.Bands.{AreInTheirBands}
use Rattle.core_model.specs.Core.{core_after, action_of}

-- After every list of events the bands are those of the bundle, and whatever is ready stands in the list of its task's band. Where the next
-- event takes a task of band 1, no task of band 0 is ready.
pub record BandsGoFirst (loaded : Loaded) (kernel : KernelCodeState) (events : List Event) : Type 0 where
  pub bands : (core_after loaded kernel events).board.bands ≡ loaded.bands
  pub lists : AreInTheirBands (core_after loaded kernel events).board
  pub taken : (event : Event) (task : ℕ) → action_of kernel.words (core_after loaded kernel events) event ≡ Some (actions.Took task)
      → (get_or loaded.bands task 0 == 0) ≡ false
      → All (λ (other : ContextState). goes_first loaded.bands other ≡ false) (all_ready (core_after loaded kernel events).board.ready)

abbrev pub BandsAlwaysGoFirst : Type 0
BandsAlwaysGoFirst = (loaded : Loaded) (kernel : KernelCodeState) (events : List Event) → BandsGoFirst loaded kernel events
