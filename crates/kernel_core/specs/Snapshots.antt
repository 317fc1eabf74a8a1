-- A core as it is reported (this project's own): where each task is, how far it is, its output, and how it ended.
use Rattle.std.specs.Prelude.{ℕ, zero, suc, ◌+◌, List, [], ◌∷◌, length, Option, Some, None, find, slice_get, ◌==◌}
use Rattle.hart_model.specs.Context.{BodyState, ContextState, DoneState}
use Rattle.hart_model.specs.HartState.{HartState}
use Rattle.core_model.specs.declared.home.Home.{Home}
use Rattle.core_model.specs.declared.home.Home.TheVariants.{Waiting, Slot, Hart, Ended}
use Rattle.core_model.specs.Board.{all_ready}
use Rattle.core_model.specs.Homes.{home_of}
use Rattle.core_model.specs.Core.{CoreState}
use Rattle.probe_log.specs.Counts.{counts_of}
use Rattle.kernel_core.specs.declared.snapshot.TaskState.{TaskState}
use Rattle.kernel_core.specs.declared.snapshot.Snapshot.{Snapshot}

-- a task that has executed so many instructions, with its output
abbrev pub live_state : Home → BodyState → TaskState
live_state home b = record { home = home; count = b.count; output = b.output; end = None }

abbrev pub ended_state : DoneState → TaskState
ended_state d = record { home = Ended; count = d.count; output = d.output; end = Some d.end }

-- a task that waits, as one that hasn't begun
abbrev pub waiting_state : TaskState
waiting_state = record { home = Waiting; count = 0; output = []; end = None }

-- the context of a task that is ready; that of a hart; and what has ended
abbrev pub state_of_context : Home → Option ContextState → TaskState
state_of_context home None = waiting_state
state_of_context home (Some c) = live_state home c.body

abbrev pub held_by : Option HartState → Option ContextState
held_by None = None
held_by (Some h) = h.held

abbrev pub state_of_done : Option DoneState → TaskState
state_of_done None = waiting_state
state_of_done (Some d) = ended_state d

-- The state of a task by its home, which every task has. What is found there is always there.
abbrev pub state_at : CoreState → ℕ → Option Home → TaskState
state_at c task None = waiting_state
state_at c task (Some Waiting) = waiting_state
state_at c task (Some (Slot slot)) = state_of_context (Slot slot) (find (λ context. context.body.task_no == task) (all_ready c.board.ready))
state_at c task (Some (Hart hart slot)) = state_of_context (Hart hart slot) (held_by (slice_get c.harts hart))
state_at c task (Some Ended) = state_of_done (find (λ done. done.task_no == task) c.board.ended)

abbrev pub state_of : CoreState → ℕ → TaskState
state_of c task = state_at c task (home_of c.board task)

-- the states of so many tasks, from this one on
abbrev pub states_from : CoreState → ℕ → ℕ → List TaskState
states_from c task zero = []
states_from c task (suc more) = state_of c task ∷ states_from c (task + 1) more

-- A snapshot of a core of so many tasks.
abbrev pub snapshot_of : ℕ → CoreState → Snapshot
snapshot_of tasks c = record {
  harts = length c.harts;
  order = c.board.order;
  tasks = states_from c 0 tasks;
  tally = counts_of c.log;
}
