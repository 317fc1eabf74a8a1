-- A run alone as contracts see it: the task, and how many instructions were executed.
use Rattle.std.specs.Prelude.{ℕ}
use Rattle.isa_model.specs.declared.task.Task.{Task}

pub record RunPosition : Type 0 where
  pub task : Task
  pub count : ℕ
