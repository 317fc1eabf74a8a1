-- One step of a hart over a board: what it leaves of both, its entries, and the queue action that it made (this project's own).
use Rattle.std.specs.Prelude.{ℕ, List, [], Option, Some, None}
use Rattle.isa_model.specs.declared.ends.End.{End}
use Rattle.hart_model.specs.declared.calls.QueueCall.{QueueCall}
use Rattle.hart_model.specs.declared.calls.QueueCall.TheVariants.{Take, GiveReady, GiveDone}
use Rattle.hart_model.specs.declared.probe.Probe.{Probe}
use Rattle.hart_model.specs.Context.{ContextState}
use Rattle.hart_model.specs.HartState.{HartState}
use Rattle.hart_model.specs.Writes.{CellWrite, HartAndProbes}
use Rattle.hart_model.specs.StepResult.{StepResult, Steps, Wants, Wedged}
use Rattle.hart_model.specs.HartStep.{hart_step, answer_take, answer_give}
use Rattle.core_model.specs.declared.action.Action.{Action}
use Rattle.core_model.specs.declared.action.Action.TheVariants as actions
use Rattle.core_model.specs.Board.{BoardState, Taken, take_of, give_ready_of, give_done_of}

-- the board, the hart, the entries, and the queue action, if there was one
pub record BoardStep : Type 0 where
  pub board : BoardState
  pub hart : HartState
  pub probes : List Probe
  pub action : Option Action

-- nothing is done
abbrev pub stays : BoardState → HartState → BoardStep
stays b h = record { board = b; hart = h; probes = []; action = None }

-- an action was made, and the hart went on
abbrev pub after_action : BoardState → HartAndProbes → Action → BoardStep
after_action b a action = record { board = b; hart = a.hart; probes = a.probes; action = Some action }

-- the action of a take that got this
abbrev pub take_action : Option ContextState → Action
take_action None = actions.Empty
take_action (Some got) = actions.Took got.body.task_no

-- The arguments below, in their order: the board `b`, the `number` of the hart, the hart `h` as it comes to the action, the `call`, the
-- `early_writes` that its instruction has begun with, the register `rd` that a take loads (0 for none), the `next` pc, and what is `held`.
-- Each definition has those that it needs.

-- a take, which the board answers at once
abbrev pub board_step_by_take : HartState → List CellWrite → ℕ → ℕ → Taken → BoardStep
board_step_by_take h early_writes rd next taken = after_action taken.board (answer_take early_writes rd next taken.got h) (take_action taken.got)

-- the held context goes back, ready to go on
abbrev pub board_step_by_give_ready : BoardState → ℕ → HartState → List CellWrite → ℕ → ContextState → BoardStep
board_step_by_give_ready b number h early_writes next held =
    after_action (give_ready_of b number held) (answer_give early_writes next h) (actions.GaveReady held.body.task_no)

-- the held context goes back with its end; without one nothing changes
abbrev pub board_step_by_give_done : BoardState → ℕ → HartState → List CellWrite → ℕ → ContextState → Option End → BoardStep
board_step_by_give_done b number h early_writes next held None = stays b h
board_step_by_give_done b number h early_writes next held (Some end) =
    after_action (give_done_of b number held end) (answer_give early_writes next h) (actions.GaveDone held.body.task_no)

-- A queue action that a hart wants is made at once. A hart that holds nothing gives nothing.
abbrev pub board_step_by_call : BoardState → ℕ → HartState → QueueCall → List CellWrite → ℕ → ℕ → Option ContextState → BoardStep
board_step_by_call b number h Take early_writes rd next held = board_step_by_take h early_writes rd next (take_of b number)
board_step_by_call b number h call early_writes rd next None = stays b h
board_step_by_call b number h GiveReady early_writes rd next (Some held) = board_step_by_give_ready b number h early_writes next held
board_step_by_call b number h GiveDone early_writes rd next (Some held) = board_step_by_give_done b number h early_writes next held held.end

-- What a step of the hart of this number comes to; a wedged hart changes nothing.
abbrev pub board_step : BoardState → ℕ → HartState → StepResult → BoardStep
board_step b number h (Steps after probes did) = record { board = b; hart = after; probes = probes; action = None }
board_step b number h (Wants call early_writes rd next) = board_step_by_call b number h call early_writes rd next h.held
board_step b number h Wedged = stays b h

-- A step of the hart of this number, which executes these words in machine mode.
abbrev pub board_step_of : List ℕ → BoardState → ℕ → HartState → BoardStep
board_step_of code b number h = board_step b number h (hart_step code h)
