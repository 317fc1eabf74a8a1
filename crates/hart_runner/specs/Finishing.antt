-- What a whole run by threads ends with (this project's own).
use Rattle.std.specs.Prelude.{◌≡◌, ℕ, ◌≤◌, List, length, slice_get, All, IsSome, Some}
use Rattle.core_model.specs.declared.loaded.Loaded.{Loaded}
use Rattle.core_model.specs.KernelWords.{kernel_code}
use Rattle.core_model.specs.Loaded.{action_bound_of}
use Rattle.core_model.specs.Orders.{coarse_after, IsLegal}
use Rattle.kernel_core.specs.declared.snapshot.TaskState.{TaskState}
use Rattle.kernel_core.specs.Snapshots.{snapshot_of}
use Rattle.hart_runner.specs.declared.finished.Finished.{Finished}
use Rattle.hart_runner.specs.declared.receipt.Receipt.{Receipt}
use Rattle.hart_runner.specs.declared.receipt.Cause.TheVariants.{Memory}
use Rattle.hart_runner.specs.Remains.{AreReceiptsOf}

-- The order is legal, and no longer than the bound. The snapshot is that of its coarse run, in which every task has ended. There is a receipt
-- for each hart.
pub record IsFinished (loaded : Loaded) (f : Finished) : Type 0 where
  pub legal : IsLegal loaded kernel_code f.snapshot.order
  pub snapshot : f.snapshot ≡ snapshot_of (length loaded.tasks) (coarse_after loaded kernel_code f.snapshot.order)
  pub ended : All (λ (task : TaskState). IsSome task.end) f.snapshot.tasks
  pub receipts : AreReceiptsOf loaded f.snapshot.order f.receipts
  pub count : length f.receipts ≡ loaded.harts
  pub bounded : length f.snapshot.order ≤ action_bound_of loaded

-- The worker of this hart had no memory for a take.
pub record IsRetired (receipts : List Receipt) (hart : ℕ) : Type 0 where
  pub receipt : Receipt
  pub at : slice_get receipts hart ≡ Some receipt
  pub cause : receipt.cause ≡ Memory

-- What a run by threads left whose worker of this hart had no memory for a take: a legal order, no longer than the bound, and a receipt for
-- each hart.
pub record IsUnfinished (loaded : Loaded) (hart : ℕ) : Type 0 where
  pub order : List ℕ
  pub receipts : List Receipt
  pub legal : IsLegal loaded kernel_code order
  pub are : AreReceiptsOf loaded order receipts
  pub count : length receipts ≡ loaded.harts
  pub bounded : length order ≤ action_bound_of loaded
  pub retired : IsRetired receipts hart
