-- A run beside a course (this project's own).
use Rattle.std.specs.Prelude.{◌≡◌, ℕ, ◌<◌, ◌⊎◌, length, slice_get, Some}
use Rattle.isa_model.specs.declared.task.Task.{Task}
use Rattle.probe_inspect.specs.Course.{IsSeenAt, IsEndAt, latches_at, values_to}
use Rattle.probe_inspect.specs.declared.course.Passed.{Passed}
use Rattle.probe_inspect.specs.declared.course.Course.{Course}
use Rattle.probe_inspect.specs.declared.rows.Row.{Row}
use Rattle.probe_inspect.specs.declared.rows.Followed.{Followed}
use Rattle.probe_inspect.specs.declared.rows.Followed.TheVariants.{Along, Leaves}

-- The first n instructions of a task are seen as those of a course.
abbrev pub IsSeenTo : Task → Course → ℕ → Type 0
IsSeenTo T course n = (m : ℕ) (passed : Passed) → m < n → slice_get course.steps m ≡ Some passed → IsSeenAt T m passed

-- A run takes a course: each instruction is seen as there, and it ends there.
pub record IsAlong (T : Task) (course : Course) : Type 0 where
  pub seen : IsSeenTo T course (length course.steps)
  pub end : IsEndAt T (length course.steps) course.last_pc

-- A row has the values of a task along a course.
pub record IsRowOf (T : Task) (course : Course) (row : Row) : Type 0 where
  pub was : row.was ≡ values_to T 0 (latches_at course) (length course.steps)
  pub now : row.now ≡ values_to T 1 (latches_at course) (length course.steps)

-- A run leaves a course at a step: it is seen as there before, and not at it. The step after the last one is where it ends.
pub record LeavesAt (T : Task) (course : Course) (step : ℕ) : Type 0 where
  pub seen : IsSeenTo T course step
  pub leaves : ((passed : Passed) × (slice_get course.steps step ≡ Some passed) × (IsSeenAt T step passed → ⊥))
      ⊎ ((step ≡ length course.steps) × (IsEndAt T step course.last_pc → ⊥))

-- what a run is found to do
abbrev pub IsFollowed : Task → Course → Followed → Type 0
IsFollowed T course (Along row) = IsAlong T course × IsRowOf T course row
IsFollowed T course (Leaves step) = LeavesAt T course step
