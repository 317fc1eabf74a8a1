-- What holds of every order of hart 0 alone, so that a drill has one text, and of its end (this project's own).
use Rattle.std.specs.Prelude.{◌≡◌, ℕ, ◌≤◌, List, length, All, IsSome}
use Rattle.core_model.specs.declared.loaded.Loaded.{Loaded}
use Rattle.core_model.specs.KernelWords.{KernelCodeState}
use Rattle.core_invariant.specs.KernelStates.{KernelParts, IsKernel}
use Rattle.kernel_core.specs.declared.snapshot.TaskState.{TaskState}
use Rattle.kernel_core.specs.Snapshots.{snapshot_of}
use Rattle.kernel_cli.specs.Drills.{IsDrillOrder, ordered_core}
use Rattle.kernel_cli.specs.Generated.{IsGenerated}

-- Under every code a loaded bundle has one such order at most.
abbrev pub DrillOrdersAreOne : Type 0
DrillOrdersAreOne = (code : KernelCodeState) (loaded : Loaded) (o p : List ℕ) → IsDrillOrder code loaded o → IsDrillOrder code loaded p → o ≡ p

-- Under every kernel all tasks of the bundle of a number have ended after it.
abbrev pub DrillsEndAll : Type 0
DrillsEndAll = (k : KernelParts) → IsKernel k → (seed tasks : ℕ) → tasks ≤ 32 → (loaded : Loaded) → IsGenerated seed tasks loaded
    → (order : List ℕ) → IsDrillOrder k.code loaded order
    → All (λ (task : TaskState). IsSome task.end) (snapshot_of (length loaded.tasks) (ordered_core k.code loaded order)).tasks
