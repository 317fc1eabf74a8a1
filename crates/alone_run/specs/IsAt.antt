-- A machine in the run of a task.
use Rattle.std.specs.Prelude.{◌≡◌, ℕ, ◌<◌, ◌≤◌, None}
use Rattle.isa_model.specs.declared.task.Task.{Task}
use Rattle.isa_model.specs.Alone.{alone_at}
use Rattle.alone_run.specs.StandsFor.{StandsFor}
use Rattle.alone_run.specs.declared.machine.Machine.{Machine}

-- a machine after n instructions of a task
pub record IsAt (T : Task) (n : ℕ) (m : Machine) : Type 0 where
  pub stands : StandsFor T (alone_at T n) m
  pub fuel : n ≤ T.fuel
  pub running : (alone_at T n).end ≡ None → n < T.fuel
