-- What holds of every core that runs a kernel, after every list of events (this project's own). Each is the contract of a law in
-- `src/laws.rt`.
use Rattle.std.specs.Prelude.{◌≡◌, ◌≢◌, ℕ, List, length, slice_get, Some}
use Rattle.hart_model.specs.HartState.{HartState}
use Rattle.hart_model.specs.StepResult.{Wedged}
use Rattle.hart_model.specs.HartStep.{hart_step}
use Rattle.core_model.specs.declared.event.Event.{Event}
use Rattle.core_model.specs.declared.loaded.Loaded.{Loaded}
use Rattle.core_model.specs.Core.{core_after}
use Rattle.core_model.specs.Loaded.{IsLoaded}
use Rattle.core_model.specs.Soundness.{IsCoreSound}
use Rattle.core_invariant.specs.Homes.{HasExactHomes}
use Rattle.core_invariant.specs.Outputs.{AreOutputsSound}
use Rattle.core_invariant.specs.KernelStates.{KernelParts, IsKernel, emitted_parts}

-- A core is sound after every list of events.
abbrev pub CoreStaysSound : Type 0
CoreStaysSound = (k : KernelParts) → IsKernel k → (loaded : Loaded) → IsLoaded loaded → (events : List Event)
    → IsCoreSound loaded (core_after loaded k.code events)

-- After every list of events the output of each task is the beginning of its output alone.
abbrev pub OutputsStayBeginnings : Type 0
OutputsStayBeginnings = (k : KernelParts) → IsKernel k → (loaded : Loaded) → IsLoaded loaded → (events : List Event)
    → AreOutputsSound loaded (core_after loaded k.code events)

-- After every list of events each task has exactly one home.
abbrev pub EachTaskHasOneHome : Type 0
EachTaskHasOneHome = (k : KernelParts) → IsKernel k → (loaded : Loaded) → IsLoaded loaded → (events : List Event)
    → HasExactHomes (length loaded.tasks) (core_after loaded k.code events).board

-- After every list of events no hart is wedged: its next step goes on or comes to a queue action.
abbrev pub NoHartWedges : Type 0
NoHartWedges = (k : KernelParts) → IsKernel k → (loaded : Loaded) → IsLoaded loaded → (events : List Event) (i : ℕ) (h : HartState)
    → slice_get (core_after loaded k.code events).harts i ≡ Some h → hart_step k.code.words h ≢ Wedged

-- The kernel of this project is one of which all of this holds.
abbrev pub EmittedIsKernel : Type 0
EmittedIsKernel = IsKernel emitted_parts
