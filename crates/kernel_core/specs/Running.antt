-- A board with harts, and what events make of them (this project's own).
use Rattle.std.specs.Prelude.{◌≡◌, ℕ, ◌+◌, ◌≤◌, List, [], length}
use Rattle.hart_model.specs.declared.probe.Probe.{Probe}
use Rattle.hart_model.specs.HartState.{HartState}
use Rattle.core_model.specs.declared.event.Event.{Event}
use Rattle.core_model.specs.declared.loaded.Loaded.{Loaded}
use Rattle.core_model.specs.Board.{BoardWithSpare}
use Rattle.core_model.specs.Core.{CoreState, CoreAndAction, event_result}
use Rattle.core_model.specs.Loaded.{IsWithinLimits}
use Rattle.core_invariant.specs.KernelStates.{KernelParts, IsKernel}
use Rattle.core_invariant.specs.Invariant.{IsCoreKept}

-- the board with its spare, the harts, the kernel, and how many queue actions there may be
pub record RunValue : Type 0 where
  pub board : BoardWithSpare
  pub harts : List HartState
  pub kernel : KernelParts
  pub actions : ℕ

-- as a core whose log begins here
abbrev pub core_of_run : RunValue → CoreState
core_of_run r = record { board = r.board.lists; harts = r.harts; log = [] }

-- what an event makes of it, with the entries of the event as the log
abbrev pub event_on : RunValue → Event → CoreAndAction
event_on r event = event_result r.kernel.code.words (core_of_run r) event

abbrev pub entries_of : RunValue → Event → List Probe
entries_of r event = (event_on r event).core.log

-- the room in the order that takes ask for beyond the actions
abbrev pub beyond : ℕ
beyond = 10

-- It is a core of a bundle within the limits, as every event keeps it, and its order has room for the actions that are left.
pub record IsRunKept (loaded : Loaded) (r : RunValue) : Type 0 where
  pub within : IsWithinLimits loaded
  pub is_kernel : IsKernel r.kernel
  pub kept : IsCoreKept r.kernel loaded (core_of_run r)
  pub room : r.actions + beyond ≤ length r.board.lists.order + r.board.spare

-- After an event: the board, the harts, and what stays.
pub record IsAfterEvent (before after : RunValue) (event : Event) : Type 0 where
  pub board : after.board.lists ≡ (event_on before event).core.board
  pub harts : after.harts ≡ (event_on before event).core.harts
  pub kernel : after.kernel ≡ before.kernel
  pub actions : after.actions ≡ before.actions
