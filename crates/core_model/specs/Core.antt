-- A core: a board and harts with the log of all their writes; its boot, and what an event makes of it (this project's own).
use Rattle.std.specs.Prelude.{ℕ, zero, suc, ◌+◌, List, [], ◌∷◌, ◌++◌, set, slice_get, Option, Some, None}
use Rattle.isa_model.specs.declared.task.Task.{Task}
use Rattle.hart_model.specs.declared.probe.Probe.{Probe}
use Rattle.hart_model.specs.Context.{BodyState, fresh_body}
use Rattle.hart_model.specs.HartState.{HartState, boot_hart, tick_of}
use Rattle.hart_model.specs.Writes.{HartAndProbes}
use Rattle.hart_model.specs.StepResult.{StepResult}
use Rattle.hart_model.specs.HartStep.{hart_step}
use Rattle.core_model.specs.declared.event.Event.{Event}
use Rattle.core_model.specs.declared.event.Event.TheVariants.{Go, Tick}
use Rattle.core_model.specs.declared.action.Action.{Action}
use Rattle.core_model.specs.declared.loaded.Loaded.{Loaded}
use Rattle.core_model.specs.Board.{BoardState, boot_board}
use Rattle.core_model.specs.BoardStep.{BoardStep, board_step}
use Rattle.core_model.specs.KernelWords.{KernelCodeState}

-- the board, the harts in the order of their numbers, and the entries of all writes so far
pub record CoreState : Type 0 where
  pub board : BoardState
  pub harts : List HartState
  pub log : List Probe

-- tasks at their start, numbered from this one on
abbrev pub bodies_from : ℕ → List Task → List BodyState
bodies_from task_no [] = []
bodies_from task_no (task ∷ tasks) = fresh_body task_no task ∷ bodies_from (task_no + 1) tasks

abbrev pub boot_bodies : Loaded → List BodyState
boot_bodies loaded = bodies_from 0 loaded.tasks

-- so many harts at boot, numbered from this one on, at the kernel's `take`
abbrev pub harts_from : ℕ → ℕ → ℕ → List HartState
harts_from number zero take = []
harts_from number (suc more) take = boot_hart number take ∷ harts_from (number + 1) more take

-- the core of a loaded bundle at boot
abbrev pub boot_core : Loaded → KernelCodeState → CoreState
boot_core loaded kernel = record {
  board = boot_board loaded.slots (boot_bodies loaded) loaded.bands;
  harts = harts_from 0 loaded.harts kernel.take;
  log = [];
}

-- what an event leaves: the core, and the queue action that it made, if it made one
pub record CoreAndAction : Type 0 where
  pub core : CoreState
  pub action : Option Action

abbrev pub without_action : CoreState → CoreAndAction
without_action c = record { core = c; action = None }

-- the core with this board, where a hart went on and made entries
abbrev pub with_hart : CoreState → ℕ → HartAndProbes → BoardState → CoreState
with_hart c hart a board = record { board = board; harts = set c.harts hart a.hart; log = c.log ++ a.probes }

-- the core with what a step of this hart left of its board and of the hart, the entries of the step, and its action
abbrev pub with_board_step : CoreState → ℕ → BoardStep → CoreAndAction
with_board_step c hart s = record { core = with_hart c hart (record { hart = s.hart; probes = s.probes }) s.board; action = s.action }

-- What a step of the hart of this number comes to in the core. Where it changes nothing, the hart goes back to where it stands already.
abbrev pub after_step : CoreState → ℕ → HartState → StepResult → CoreAndAction
after_step c hart h step = with_board_step c hart (board_step c.board hart h step)

-- a step of the hart of this number, where there is one
abbrev pub after_go : List ℕ → CoreState → ℕ → Option HartState → CoreAndAction
after_go code c hart None = without_action c
after_go code c hart (Some h) = after_step c hart h (hart_step code h)

-- the timer of the hart of this number becomes pending
abbrev pub after_tick : CoreState → ℕ → Option HartState → CoreState
after_tick c hart None = c
after_tick c hart (Some h) = record c { harts = set c.harts hart (tick_of h) }

-- An event of a core whose harts execute these words in machine mode: the core after it, and its queue action.
abbrev pub event_result : List ℕ → CoreState → Event → CoreAndAction
event_result code c (Go hart) = after_go code c hart (slice_get c.harts hart)
event_result code c (Tick hart) = without_action (after_tick c hart (slice_get c.harts hart))

abbrev pub after_event : List ℕ → CoreState → Event → CoreState
after_event code c event = (event_result code c event).core

abbrev pub action_of : List ℕ → CoreState → Event → Option Action
action_of code c event = (event_result code c event).action

-- the core after events, the first one first
unfoldable pub core_from : List ℕ → CoreState → List Event → CoreState
core_from code c [] = c
core_from code c (event ∷ events) = core_from code (after_event code c event) events

-- The core of a loaded bundle after events, and its log.
abbrev pub core_after : Loaded → KernelCodeState → List Event → CoreState
core_after loaded kernel events = core_from kernel.words (boot_core loaded kernel) events

abbrev pub log_of : Loaded → KernelCodeState → List Event → List Probe
log_of loaded kernel events = (core_after loaded kernel events).log
