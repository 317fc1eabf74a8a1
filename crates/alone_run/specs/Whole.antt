-- What the whole run alone ends with.
use Rattle.std.specs.Prelude.{◌≡◌, ◌≤◌, Some}
use Rattle.isa_model.specs.declared.task.Task.{Task}
use Rattle.isa_model.specs.Alone.{last_of, count_of}
use Rattle.alone_run.specs.declared.running.Ended.{Ended}

pub record IsEndOf (T : Task) (e : Ended) : Type 0 where
  pub end : (last_of T).end ≡ Some e.end
  pub count_is : e.count ≡ count_of T
  pub within : e.count ≤ T.fuel
  pub output : e.output ≡ (last_of T).output
