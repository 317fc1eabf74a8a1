-- What a core was told, and what it is then (this project's own).
use Rattle.std.specs.Prelude.{◌≡◌, ◌≢◌, ℕ, Bool, List, [], ◌∷◌, ◌++◌, length, slice_get, Some}
use Rattle.hart_model.specs.HartState.{HartState}
use Rattle.hart_model.specs.StepResult.{Wedged}
use Rattle.hart_model.specs.HartStep.{hart_step}
use Rattle.core_model.specs.declared.event.Event.{Event}
use Rattle.core_model.specs.declared.loaded.Loaded.{Loaded}
use Rattle.core_model.specs.Board.{BoardState}
use Rattle.core_model.specs.Core.{CoreState, boot_core, core_from}
use Rattle.core_model.specs.Soundness.{IsCoreSound}
use Rattle.core_model.specs.Loaded.{IsWithinLimits}
use Rattle.core_invariant.specs.KernelStates.{KernelParts, emitted_parts}
use Rattle.core_invariant.specs.Invariant.{IsCoreKept}
use Rattle.core_invariant.specs.Homes.{HasExactHomes}
use Rattle.core_invariant.specs.Outputs.{AreOutputsSound}
use Rattle.probe_log.specs.Counts.{StandFor}
use Rattle.resume_laws.specs.CanRest.{CanRest, OfEachHart}
use Rattle.resume_laws.specs.Parts.{core_of_parts, HasBands}
use Rattle.kernel_core.specs.Counted.{CountedValue}
use Rattle.kernel_core.specs.Kernels.{IsWholeKernel}
use Rattle.kernel_core.specs.Running.{RunValue}
use Rattle.kernel_core.specs.Seats.{SeatValue}

-- the bundle, the kernel, the core that it began with, and the events since then
pub record History : Type 0 where
  pub loaded : Loaded
  pub kernel : KernelParts
  pub start : CoreState
  pub events : List Event

-- told nothing but the bundle and the kernel: it begins at boot
abbrev pub history_at_boot : Loaded → KernelParts → History
history_at_boot loaded kernel = record { loaded = loaded; kernel = kernel; start = boot_core loaded kernel.code; events = [] }

-- told nothing but the parts of which it is made: it begins with them, and with a log of its own
abbrev pub history_over : Loaded → BoardState → List HartState → History
history_over loaded board harts = record { loaded = loaded; kernel = emitted_parts; start = core_of_parts board harts; events = [] }

-- told one event more
abbrev pub given : History → Event → History
given t event = record t { events = t.events ++ event ∷ [] }

-- the core of all that was told
abbrev pub core_of : History → CoreState
core_of t = core_from t.kernel.code.words t.start t.events

-- a core, how many tasks it has, its keeper with the counts, what it keeps beside each hart, and whether it was told nothing that doesn't go by
-- the plans
pub record CoreValue (K : Type 0) : Type 0 where
  pub run : RunValue
  pub tasks : ℕ
  pub log : CountedValue K
  pub seats : List SeatValue
  pub is_paced : Bool

-- It is that of what was told, and the counts are those of its log. It began as every event keeps it, with harts that can rest and with the
-- bands of the bundle.
pub record IsCoreOf {K : Type 0} (t : History) (c : CoreValue K) : Type 0 where
  pub within : IsWithinLimits t.loaded
  pub is_kernel : IsWholeKernel t.kernel
  pub start : IsCoreKept t.kernel t.loaded t.start
  pub rests : OfEachHart (CanRest t.loaded.tasks t.kernel) t.start
  pub bands : HasBands t.loaded.bands t.start.board
  pub kernel : c.run.kernel ≡ t.kernel
  pub tasks : c.tasks ≡ length t.loaded.tasks
  pub board : c.run.board.lists ≡ (core_of t).board
  pub harts : c.run.harts ≡ (core_of t).harts
  pub counts : StandFor c.log.tally (core_of t).log

-- What holds of every core that was told something: it is sound, each task has exactly one home, the outputs are beginnings of those of the
-- undisturbed runs, and no hart is wedged, so its next step goes on or comes to a queue action.
pub record IsSoundCore (t : History) : Type 0 where
  pub sound : IsCoreSound t.loaded (core_of t)
  pub homes : HasExactHomes (length t.loaded.tasks) (core_of t).board
  pub outputs : AreOutputsSound t.loaded (core_of t)
  pub unwedged : (i : ℕ) (h : HartState) → slice_get (core_of t).harts i ≡ Some h → hart_step t.kernel.code.words h ≢ Wedged
