-- None of the receipts so far is of want of memory.
use Rattle.std.proofs.Common.{◌≡◌, ℕ, ◌<◌, slice_get, Some}
use Rattle.hart_runner.specs.declared.receipt.Receipt.{Receipt}
use Rattle.hart_runner.specs.declared.receipt.Cause.TheVariants.{Empty}
use Rattle.hart_runner.proofs.closing.first_retired.Given as goal

abbrev pub invariant-loop-hart : goal.invariant-loop-hart
invariant-loop-hart l = (i : ℕ) (r : Receipt) → i < l.hart → slice_get l.receipts i ≡ Some r → r.cause ≡ Empty
