-- What the workers leave when all have ended (this project's own).
use Rattle.std.specs.Prelude.{◌≡◌, ℕ, zero, suc, List, [], ◌++◌, length, slice_get, Some}
use Rattle.hart_model.specs.declared.probe.Probe.{Probe}
use Rattle.core_model.specs.declared.loaded.Loaded.{Loaded}
use Rattle.core_model.specs.KernelWords.{kernel_code}
use Rattle.core_model.specs.Core.{CoreState}
use Rattle.core_model.specs.Orders.{coarse_after}
use Rattle.probe_log.specs.Counts.{Counts, StandFor}
use Rattle.order_laws.specs.CoarseRuns.{entries_by}
use Rattle.hart_runner.specs.declared.receipt.Receipt.{Receipt}
use Rattle.hart_runner.specs.declared.remains.Remains.{Remains}
use Rattle.hart_runner.specs.CoreBoards.{IsBoardOf}
use Rattle.hart_runner.specs.Receipts.{IsReceiptOf}

-- the entries of the harts from 0 on, of so many harts, one hart after the other
abbrev pub entries_of_harts : ℕ → List Probe → List Probe
entries_of_harts zero log = []
entries_of_harts (suc harts) log = entries_of_harts harts log ++ entries_by harts log

-- Tally i counts the entries of the log that name hart i.
abbrev pub AreTalliesOf : List Probe → List Counts → Type 0
AreTalliesOf log tallies = (hart : ℕ) (tally : Counts) → slice_get tallies hart ≡ Some tally → StandFor tally (entries_by hart log)

-- receipt i is hart i's, over this order
abbrev pub AreReceiptsOf : Loaded → List ℕ → List Receipt → Type 0
AreReceiptsOf loaded order receipts = (hart : ℕ) (r : Receipt) → slice_get receipts hart ≡ Some r → IsReceiptOf loaded order hart r

-- the coarse run of the board's own order
abbrev pub core_left : Loaded → Remains → CoreState
core_left loaded left = coarse_after loaded kernel_code left.board.lists.order

-- The board stands for its own order; the harts are those of its coarse run, and for each hart there are the counts of its entries and a
-- receipt.
pub record AreRemainsOf (loaded : Loaded) (left : Remains) : Type 0 where
  pub board : IsBoardOf loaded left.board left.board.lists.order
  pub harts : left.harts ≡ (core_left loaded left).harts
  pub tallies : AreTalliesOf (core_left loaded left).log left.tallies
  pub tally_count : length left.tallies ≡ loaded.harts
  pub receipts : AreReceiptsOf loaded left.board.lists.order left.receipts
  pub receipt_count : length left.receipts ≡ loaded.harts
