-- How far a run alone is (this project's own).
use Rattle.std.specs.Prelude.{◌≡◌, ℕ, None}
use Rattle.isa_model.specs.declared.task.Task.{Task}
use Rattle.isa_model.specs.Alone.{alone_at}
use Rattle.alone_run.specs.RunPosition.{RunPosition}

-- A run of this task is where n instructions lead: its state is that after n instructions, and it has executed n where it hasn't ended.
pub record IsAfter (T : Task) (n : ℕ) (m : RunPosition) : Type 0 where
  pub task : m.task ≡ T
  pub state : alone_at T m.count ≡ alone_at T n
  pub exact : (alone_at T m.count).end ≡ None → m.count ≡ n
