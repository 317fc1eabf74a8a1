-- The course of a run alone, with the latches that each instruction writes (this project's own).
use Rattle.std.specs.Prelude.{◌≡◌, ℕ, zero, suc, ◌+◌, ◌≤◌, List, [], ◌++◌, length, map, Option, None, Some, IsSome, slice_get}
use Rattle.isa_model.specs.declared.latch.Latch.{Latch}
use Rattle.isa_model.specs.declared.task.Task.{Task}
use Rattle.isa_model.specs.Alone.{alone_at}
use Rattle.isa_model.specs.AloneValue.{alone_value}
use Rattle.isa_model.specs.Control.{control_at}
use Rattle.core_model.specs.Places.{written_at}
use Rattle.probe_inspect.specs.LatchList.{AreInOrder}
use Rattle.probe_inspect.specs.declared.course.Passed.{Passed}
use Rattle.probe_inspect.specs.declared.course.Course.{Course}

-- Instruction n of a task is executed, and others see this of it.
pub record IsSeenAt (T : Task) (n : ℕ) (passed : Passed) : Type 0 where
  pub running : (alone_at T n).end ≡ None
  pub control : passed.control ≡ control_at T n

-- It is instruction n of a task, with the latches that it writes, in order and at most 7.
pub record IsPassed (T : Task) (n : ℕ) (passed : Passed) : Type 0 where
  pub seen : IsSeenAt T n passed
  pub latches : AreInOrder passed.latches (written_at T n)
  pub few : length passed.latches ≤ 7

-- the run has ended after n instructions, at this pc
pub record IsEndAt (T : Task) (n at : ℕ) : Type 0 where
  pub ended : IsSome (alone_at T n).end
  pub pc : (alone_at T n).pc ≡ at

-- the latches of a step, and none past the last one
abbrev pub latches_of : Option Passed → List Latch
latches_of None = []
latches_of (Some passed) = passed.latches

abbrev pub latches_in : List Passed → ℕ → List Latch
latches_in steps n = latches_of (slice_get steps n)

abbrev pub latches_at : Course → ℕ → List Latch
latches_at course n = latches_in course.steps n

-- how many latches are written in the first n steps, by the latches of each
unfoldable pub places_before : (ℕ → List Latch) → ℕ → ℕ
places_before latches zero = 0
places_before latches (suc n) = places_before latches n + length (latches n)

-- The course of a task.
pub record IsCourseOf (T : Task) (course : Course) : Type 0 where
  pub steps : (n : ℕ) (passed : Passed) → slice_get course.steps n ≡ Some passed → IsPassed T n passed
  pub within : length course.steps ≤ T.fuel
  pub places : course.places ≡ places_before (latches_at course) (length course.steps)
  pub end : IsEndAt T (length course.steps) course.last_pc

-- the values of a task, one latch after the other, where in step m the run has executed m + later instructions
unfoldable pub values_to : Task → ℕ → (ℕ → List Latch) → ℕ → List ℕ
values_to T later latches zero = []
values_to T later latches (suc n) = values_to T later latches n ++ map (alone_value T (n + later)) (latches n)
