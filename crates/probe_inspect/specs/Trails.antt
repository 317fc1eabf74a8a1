-- Marks along the run of a task (this project's own).
use Rattle.std.specs.Prelude.{◌≡◌, ℕ, ◌*◌, ◌<◌, ◌≤◌, List, length, slice_get, Some}
use Rattle.isa_model.specs.declared.task.Task.{Task}
use Rattle.isa_model.specs.Alone.{count_of}
use Rattle.alone_run.specs.declared.marks.Mark.{Mark}
use Rattle.alone_run.specs.Marks.{IsMarkOf}

-- Marks of the run of a task: mark i is after 256 i instructions, there is one at the start, and after the last one at most 256 follow.
pub record IsTrailOf (T : Task) (marks : List Mark) : Type 0 where
  pub some : 0 < length marks
  pub each : (i : ℕ) (m : Mark) → slice_get marks i ≡ Some m → IsMarkOf T (256 * i) m
  pub whole : count_of T ≤ 256 * length marks
