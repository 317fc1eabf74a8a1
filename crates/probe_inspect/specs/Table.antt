-- All worlds along a course, and the first one that leaves it (this project's own).
use Rattle.std.specs.Prelude.{◌≡◌, ℕ, ◌<◌, ◌≤◌, List, length, Option, None, Some, slice_get}
use Rattle.isa_model.specs.declared.task.Task.{Task}
use Rattle.core_model.specs.declared.world.World.{World}
use Rattle.core_model.specs.Security.{task_in}
use Rattle.probe_inspect.specs.Course.{IsSeenAt, IsEndAt}
use Rattle.probe_inspect.specs.Rows.{IsSeenTo, IsAlong, IsRowOf, LeavesAt}
use Rattle.probe_inspect.specs.declared.course.Passed.{Passed}
use Rattle.probe_inspect.specs.declared.course.Course.{Course}
use Rattle.probe_inspect.specs.declared.rows.Row.{Row}
use Rattle.probe_inspect.specs.declared.table.Parting.{Parting}
use Rattle.probe_inspect.specs.declared.table.Table.{Table}

-- A run is seen at a step as a course is, and where that is the step after the last one it ends there.
pub record IsAlikeAt (T : Task) (course : Course) (step : ℕ) : Type 0 where
  pub seen : (passed : Passed) → slice_get course.steps step ≡ Some passed → IsSeenAt T step passed
  pub end : step ≡ length course.steps → IsEndAt T step course.last_pc

-- Of the first n worlds this one leaves the course at the least step, and is the first that leaves it there.
pub record IsFirstParting (T : Task) (worlds : List World) (course : Course) (n : ℕ) (p : Parting) : Type 0 where
  pub low : p.world < n
  pub within : p.step ≤ length course.steps
  pub leaves : (w : World) → slice_get worlds p.world ≡ Some w → LeavesAt (task_in T w) course p.step
  pub before : (i : ℕ) (w : World) → i < n → slice_get worlds i ≡ Some w → IsSeenTo (task_in T w) course p.step
  pub others : (i : ℕ) (w : World) → i < p.world → slice_get worlds i ≡ Some w → IsAlikeAt (task_in T w) course p.step

-- the first n worlds take the course
abbrev pub TakeCourse : Task → List World → Course → ℕ → Type 0
TakeCourse T worlds course n = (i : ℕ) (w : World) → i < n → slice_get worlds i ≡ Some w → IsAlong (task_in T w) course

abbrev pub IsPartingTo : Task → List World → Course → ℕ → Option Parting → Type 0
IsPartingTo T worlds course n None = TakeCourse T worlds course n
IsPartingTo T worlds course n (Some p) = IsFirstParting T worlds course n p

-- there is a row of each of the first n worlds
pub record AreRowsTo (T : Task) (worlds : List World) (course : Course) (n : ℕ) (rows : List Row) : Type 0 where
  pub count : length rows ≡ n
  pub each : (i : ℕ) (row : Row) (w : World) → slice_get rows i ≡ Some row → slice_get worlds i ≡ Some w → IsRowOf (task_in T w) course row

-- What is known of the first n worlds: the first that leaves the course; if none does, the rows of all.
pub record IsTable (T : Task) (worlds : List World) (course : Course) (n : ℕ) (table : Table) : Type 0 where
  pub parting : IsPartingTo T worlds course n table.parting
  pub rows : table.parting ≡ None → AreRowsTo T worlds course n table.rows
