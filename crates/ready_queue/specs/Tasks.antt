-- The tasks of a board, by their numbers (this project's own).
use Rattle.std.specs.Prelude.{◌≢◌, ℕ, All, Option, find, ◌==◌}
use Rattle.hart_model.specs.Context.{BodyState, ContextState, DoneState}
use Rattle.core_model.specs.Board.{BoardState, OutEntry, all_ready}

-- the body of a task, if it waits
abbrev pub waiting_body : BoardState → ℕ → Option BodyState
waiting_body b task = find (λ body. body.task_no == task) b.waiting

-- its context, if it is ready
abbrev pub ready_context : BoardState → ℕ → Option ContextState
ready_context b task = find (λ c. c.body.task_no == task) (all_ready b.ready)

-- where it is out, if it is
abbrev pub entry_of : BoardState → ℕ → Option OutEntry
entry_of b task = find (λ o. o.task_no == task) b.out

-- the ended task, if it has ended
abbrev pub ended_task : BoardState → ℕ → Option DoneState
ended_task b task = find (λ done. done.task_no == task) b.ended

-- the task doesn't wait, isn't ready, isn't out on a hart, hasn't ended
abbrev pub IsNotWaiting : BoardState → ℕ → Type 0
IsNotWaiting b task = All (λ body. body.task_no ≢ task) b.waiting

abbrev pub IsNotReady : BoardState → ℕ → Type 0
IsNotReady b task = All (λ c. c.body.task_no ≢ task) (all_ready b.ready)

abbrev pub IsNotOut : BoardState → ℕ → Type 0
IsNotOut b task = All (λ o. o.task_no ≢ task) b.out

abbrev pub HasNotEnded : BoardState → ℕ → Type 0
HasNotEnded b task = All (λ done. done.task_no ≢ task) b.ended

-- the number is that of no task
pub record IsNoTask (b : BoardState) (task : ℕ) : Type 0 where
  pub waiting : IsNotWaiting b task
  pub ready : IsNotReady b task
  pub out : IsNotOut b task
  pub ended : HasNotEnded b task
