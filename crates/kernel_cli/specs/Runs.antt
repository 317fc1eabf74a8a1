-- What a work on threads finds, and its answer.
use Rattle.std.specs.Prelude.{ℕ, ◌≤◌, List, length, All, IsSome}
use Rattle.core_model.specs.declared.loaded.Loaded.{Loaded}
use Rattle.core_model.specs.KernelWords.{kernel_code}
use Rattle.core_model.specs.Loaded.{action_bound_of}
use Rattle.core_model.specs.Orders.{coarse_after, IsLegal}
use Rattle.kernel_core.specs.declared.snapshot.TaskState.{TaskState}
use Rattle.kernel_core.specs.Snapshots.{snapshot_of}
use Rattle.kernel_cli.specs.Answer.{Answer, done}
use Rattle.kernel_cli.specs.Findings.{Finding, order_in}
use Rattle.kernel_cli.specs.Replays.{order_report}
use Rattle.kernel_cli.specs.declared.work.ThreadWork.{ThreadWork}
use Rattle.kernel_cli.specs.declared.work.ThreadWork.TheVariants.{Run}

-- An order that harts may make on their threads: it is legal, no longer than the bound of the bundle, and all tasks have ended after it.
pub record IsRunOrder (loaded : Loaded) (order : List ℕ) : Type 0 where
  pub legal : IsLegal loaded kernel_code order
  pub bounded : length order ≤ action_bound_of loaded
  pub ended : All (λ (task : TaskState). IsSome task.end) (snapshot_of (length loaded.tasks) (coarse_after loaded kernel_code order)).tasks

-- the answer to a work on threads over a loaded bundle
abbrev pub run_answer : ThreadWork → Finding → Loaded → Answer
run_answer (Run harts) found loaded = done (order_report loaded (order_in found))

-- what it finds of the bundle
abbrev pub IsFoundByThreads : ThreadWork → Loaded → Finding → Type 0
IsFoundByThreads (Run harts) loaded found = IsRunOrder loaded (order_in found)
