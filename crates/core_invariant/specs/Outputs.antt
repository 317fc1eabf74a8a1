-- The outputs of tasks in a core (this project's own): wherever a task is, what it has put out is the beginning of its output alone.
use Rattle.std.specs.Prelude.{◌≡◌, ℕ, List, All, slice_get, Option, Some, None}
use mathlib.Core.List.{IsPrefix}
use Rattle.isa_model.specs.declared.task.Task.{Task}
use Rattle.isa_model.specs.Alone.{last_of}
use Rattle.hart_model.specs.Context.{BodyState, ContextState, DoneState}
use Rattle.hart_model.specs.HartState.{HartState}
use Rattle.core_model.specs.declared.loaded.Loaded.{Loaded}
use Rattle.core_model.specs.Core.{CoreState}
use Rattle.core_model.specs.Board.{all_ready}

-- There is a task of this number, and this is the beginning of the output of its whole run alone.
pub record IsOutputOf (tasks : List Task) (task_no : ℕ) (output : List ℕ) : Type 0 where
  pub task : Task
  pub is_task : slice_get tasks task_no ≡ Some task
  pub is_prefix : IsPrefix output (last_of task).output

-- what is held
abbrev pub IsHeldOutput : List Task → Option ContextState → Type 0
IsHeldOutput tasks None = Unit {0}
IsHeldOutput tasks (Some c) = IsOutputOf tasks c.body.task_no c.body.output

-- So it is of each waiting task, each ready one, each one that a hart holds, and each ended one.
pub record AreOutputsSound (loaded : Loaded) (c : CoreState) : Type 0 where
  pub waiting : All (λ (b : BodyState). IsOutputOf loaded.tasks b.task_no b.output) c.board.waiting
  pub ready : All (λ (context : ContextState). IsOutputOf loaded.tasks context.body.task_no context.body.output) (all_ready c.board.ready)
  pub held : (i : ℕ) (h : HartState) → slice_get c.harts i ≡ Some h → IsHeldOutput loaded.tasks h.held
  pub ended : All (λ (d : DoneState). IsOutputOf loaded.tasks d.task_no d.output) c.board.ended
