-- What is known on the way to a verdict (this project's own).
use Rattle.std.specs.Prelude.{◌≡◌, ◌≤◌, List, All, length, Err, slice_get, Some}
use Rattle.isa_model.specs.declared.task.Task.{Task}
use Rattle.isa_model.specs.TaskPlaces.{IsValidTask}
use Rattle.core_model.specs.declared.world.World.{World}
use Rattle.isa_model.specs.Limits.{max_worlds, max_tape_words}
use Rattle.core_model.specs.Loaded.{AreAsLong}
use Rattle.core_model.specs.Security.{task_in}
use Rattle.probing_laws.specs.declared.verdict.CertFault.{CertFault}
use Rattle.probing_laws.specs.Verdicts.{IsAdmitted}
use Rattle.probing_laws.specs.Certified.{IsCertified}
use Rattle.probe_inspect.specs.Columns.{AreGroupsOf, AreRowsAlong}
use Rattle.probe_inspect.specs.Course.{IsCourseOf}
use Rattle.probe_inspect.specs.Groups.{AreGroups, AsManyAs}
use Rattle.probe_inspect.specs.Table.{TakeCourse, AreRowsTo}
use Rattle.probe_inspect.specs.declared.certifying.Survey.{Survey}
use Rattle.probe_inspect.specs.declared.course.Course.{Course}
use Rattle.probe_inspect.specs.declared.groups.Group.{Group}
use Rattle.probe_inspect.specs.declared.rows.Row.{Row}

-- a valid task, and worlds within their limits
pub record IsWorldsOf (T : Task) (worlds : List World) : Type 0 where
  pub valid : IsValidTask T
  pub few : length worlds ≤ max_worlds
  pub words : All (λ (world : World). length world.tape ≤ max_tape_words) worlds
  pub as_long : AreAsLong worlds

-- a fault that is the answer
abbrev pub IsRefused : Task → List World → CertFault → Type 0
IsRefused T worlds fault = IsCertified T worlds (Err fault)

-- the groups of worlds, all equally large
pub record AreEvenGroups (worlds : List World) (groups : List Group) : Type 0 where
  pub are : AreGroups worlds groups
  pub even : All (AsManyAs groups) groups

-- the course of the first world
abbrev pub IsFirstCourse : Task → List World → Course → Type 0
IsFirstCourse T worlds course = (first : World) → slice_get worlds 0 ≡ Some first → IsCourseOf (task_in T first) course

-- all worlds take a course, and these are their rows
pub record AreAllRows (T : Task) (worlds : List World) (course : Course) (rows : List Row) : Type 0 where
  pub take : TakeCourse T worlds course (length worlds)
  pub each : AreRowsTo T worlds course (length worlds) rows

-- The survey of a task in its worlds, which aren't too many: its groups, the course of all, and their rows.
pub record IsSurveyOf (T : Task) (worlds : List World) (survey : Survey) : Type 0 where
  pub admitted : IsAdmitted T worlds
  pub groups : AreEvenGroups worlds survey.groups
  pub course : IsFirstCourse T worlds survey.course
  pub rows : AreAllRows T worlds survey.course survey.rows

-- Each member of a group has a row, and each row all places of the course.
pub record IsFitting (survey : Survey) : Type 0 where
  pub groups : AreGroupsOf survey.groups survey.rows
  pub along : AreRowsAlong survey.course survey.rows
