-- The laws of cores, from what each hart of a kernel does.
use Rattle.std.proofs.Common.{length}
use Rattle.core_model.specs.declared.loaded.Loaded.{Loaded}
use Rattle.core_model.specs.Core.{core_after}
use Rattle.core_model.specs.Loaded.{IsLoaded}
use Rattle.core_invariant.specs.KernelStates.{KernelParts, IsKernel}
use Rattle.core_invariant.specs.OneHart.{EachHart}
use Rattle.core_invariant.specs.Laws.{CoreStaysSound, OutputsStayBeginnings, EachTaskHasOneHome, NoHartWedges}
use Rattle.core_invariant.proofs.Boot.{core-kept, core-sound}
use Rattle.core_invariant.proofs.CoreOutputs.{outputs-sound}
use Rattle.core_invariant.proofs.OneHome.{exact-homes}

-- each hart of every loaded bundle does what it has to, under every kernel
abbrev pub HartsOfKernels : Type 0
HartsOfKernels = (k : KernelParts) → IsKernel k → (loaded : Loaded) → IsLoaded loaded → EachHart loaded.tasks k

module _ (harts : HartsOfKernels) where
  pub stays-sound : CoreStaysSound
  stays-sound k kernel loaded fits events = core-sound k loaded fits (harts k kernel loaded fits) events

  pub outputs-stay : OutputsStayBeginnings
  outputs-stay k kernel loaded fits events =
      outputs-sound k loaded (core_after loaded k.code events) (core-kept k loaded fits (harts k kernel loaded fits) events)

  pub one-home-each : EachTaskHasOneHome
  one-home-each k kernel loaded fits events =
      let kept = core-kept k loaded fits (harts k kernel loaded fits) events in
      exact-homes (length loaded.tasks) (core_after loaded k.code events).board kept.homes

  pub none-wedges : NoHartWedges
  none-wedges k kernel loaded fits events i h is =
      let one = harts k kernel loaded fits in
      one.never_wedged i h ((core-kept k loaded fits one events).harts i h is)
