-- What holds of the cores of alike bundles, after every list of events (this project's own). Each is the contract of a law in
-- `src/laws.rt`.
use Rattle.std.specs.Prelude.{List}
use Rattle.core_model.specs.declared.event.Event.{Event}
use Rattle.core_model.specs.declared.loaded.Loaded.{Loaded}
use Rattle.core_model.specs.Core.{log_of}
use Rattle.core_model.specs.Loaded.{IsLoaded}
use Rattle.core_model.specs.LowEquivalence.{AreAlike, AgreePublicly}
use Rattle.core_model.specs.Routines.{Saves, Restores}
use Rattle.core_invariant.specs.KernelStates.{KernelParts, IsKernel, IsAlikeKernel, own_save, own_restore}

-- With a kernel whose parts do alike on harts that are alike, the logs of alike bundles agree publicly after every list of events.
abbrev pub AlikeLogsAgree : Type 0
AlikeLogsAgree = (k : KernelParts) → IsKernel k → IsAlikeKernel k → (loaded other : Loaded) → IsLoaded loaded → IsLoaded other → AreAlike loaded other
    → (events : List Event) → AgreePublicly (log_of loaded k.code events) (log_of other k.code events)

-- The words of this project's own save part save, whatever code follows them, and those of its restore part restore, whatever code stands
-- before and after them: by their values, their tags and entries, and on two harts that are alike.
pub record OwnPartsDo : Type 0 where
  pub saves : Saves own_save
  pub restores : Restores own_restore
