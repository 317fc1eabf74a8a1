-- What holds of the core that a command runs.
use Rattle.std.specs.Prelude.{◌≡◌, ◌≢◌, ℕ, ◌≤◌, List, length, take, slice_get, Some}
use Rattle.hart_model.specs.HartState.{HartState}
use Rattle.hart_model.specs.StepResult.{Wedged}
use Rattle.hart_model.specs.HartStep.{hart_step}
use Rattle.core_model.specs.declared.event.Event.{Event}
use Rattle.core_model.specs.declared.loaded.Loaded.{Loaded}
use Rattle.core_model.specs.KernelWords.{KernelCodeState}
use Rattle.core_model.specs.Core.{CoreState, core_after}
use Rattle.core_model.specs.Loaded.{IsLoaded}
use Rattle.core_model.specs.LowEquivalence.{AreAlike}
use Rattle.core_model.specs.Soundness.{IsCoreSound}
use Rattle.core_invariant.specs.Homes.{HasExactHomes}
use Rattle.core_invariant.specs.KernelStates.{KernelParts, IsKernel, IsAlikeKernel, emitted_parts, linked_parts}
use Rattle.core_invariant.specs.Outputs.{AreOutputsSound}
use Rattle.order_laws.specs.Laws.{RunAlike}
use Rattle.probing_laws.specs.TwoWorlds.{AgreeUpToNames}
use Rattle.scrub_rules.specs.Broken.{AreAcceptedParts}
use Rattle.kernel_cli.specs.Commands.{IsHartCount}
use Rattle.kernel_cli.specs.Bundles.{LoadAs}
use Rattle.kernel_cli.specs.Generated.{IsGenerated}

-- the core of a loaded bundle under a kernel after so many of these events
abbrev pub core_at : KernelCodeState → Loaded → List Event → ℕ → CoreState
core_at code loaded events count = core_after loaded code (take count events)

-- After any number of these events: no slot and no hart has two tasks, each ready context stands for its task, a hart in user mode is where
-- the undisturbed run of its task is, and each entry of the log is public or shows a value or a change of one task's undisturbed run; each
-- task has exactly one home; what a task has put out is a beginning of its output alone; and no hart is wedged, so its next step goes on or
-- comes to a queue action. What public values tell decides the rest: the log of every bundle that is alike in all that is public agrees
-- publicly with this one, and has the same entry wherever what the entry names is the same; and every order stands for the same events of
-- such a bundle, and is legal for both or for neither.
pub record IsRunSound (k : KernelParts) (loaded : Loaded) (events : List Event) : Type 0 where
  pub sound : (count : ℕ) → IsCoreSound loaded (core_at k.code loaded events count)
  pub homes : (count : ℕ) → HasExactHomes (length loaded.tasks) (core_at k.code loaded events count).board
  pub outputs : (count : ℕ) → AreOutputsSound loaded (core_at k.code loaded events count)
  pub unwedged : (count i : ℕ) (h : HartState) → slice_get (core_at k.code loaded events count).harts i ≡ Some h → hart_step k.code.words h ≢ Wedged
  pub alike : (count : ℕ) (other : Loaded) → IsLoaded other → AreAlike loaded other
      → AgreeUpToNames loaded.tasks other.tasks (core_at k.code loaded events count).log (core_at k.code other events count).log
  pub orders : (other : Loaded) → IsLoaded other → AreAlike loaded other → (order : List ℕ) → RunAlike k loaded other order

-- So it is under every kernel whose parts do alike on harts that are alike, of every bundle that is loaded, by any events.
abbrev pub AreKernelsSound : Type 0
AreKernelsSound = (k : KernelParts) → IsKernel k → IsAlikeKernel k → (loaded : Loaded) → IsLoaded loaded
    → (events : List Event) → IsRunSound k loaded events

-- So under the kernel of this project, of every bundle that bytes are read and loaded as, for any number of harts,
abbrev pub AreCoresSound : Type 0
AreCoresSound = (harts : ℕ) → IsHartCount harts → (bytes : List ℕ) (loaded : Loaded) → LoadAs harts bytes loaded
    → (events : List Event) → IsRunSound emitted_parts loaded events

-- and of what the bundle of every number loads as for one hart.
abbrev pub AreGeneratedCoresSound : Type 0
AreGeneratedCoresSound = (seed tasks : ℕ) → tasks ≤ 32 → (loaded : Loaded) → IsGenerated seed tasks loaded
    → (events : List Event) → IsRunSound emitted_parts loaded events

-- And so it is under the kernel that has the two parts of any accepted words.
abbrev pub AreLintedCoresSound : Type 0
AreLintedCoresSound = (words save restore : List ℕ) → AreAcceptedParts words save restore
    → (seed tasks : ℕ) → tasks ≤ 32 → (loaded : Loaded) → IsGenerated seed tasks loaded
    → (events : List Event) → IsRunSound (linked_parts save restore) loaded events
