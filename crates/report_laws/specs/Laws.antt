-- What a report tells.
use Rattle.std.specs.Prelude.{◌≡◌, ℕ, ◌<◌, ◌^◌, List, length}
use Rattle.std.specs.List.{AllByRecursion}
use Rattle.core_model.specs.declared.event.Event.{Event}
use Rattle.core_model.specs.declared.loaded.Loaded.{Loaded}
use Rattle.core_model.specs.Core.{core_after}
use Rattle.core_model.specs.Loaded.{IsLoaded}
use Rattle.core_model.specs.Orders.{coarse_after, IsLegal}
use Rattle.core_invariant.specs.KernelStates.{KernelParts, IsKernel}
use Rattle.kernel_core.specs.declared.snapshot.Snapshot.{Snapshot}
use Rattle.kernel_core.specs.Snapshots.{snapshot_of}
use Rattle.report_text.specs.Report.{report_of}

-- An order as memory can hold it: each hart's number is a byte, and its entries are fewer than 2 ^ 64.
pub record IsOrderOfBytes (order : List ℕ) : Type 0 where
  pub harts : AllByRecursion (λ hart. hart < 256) order
  pub entries : length order < 2 ^ 64

-- Two snapshots that have the same report have the same order.
abbrev pub ReportsTellOrders : Type 0
ReportsTellOrders = (s t : Snapshot) → IsOrderOfBytes s.order → IsOrderOfBytes t.order → report_of s ≡ report_of t → s.order ≡ t.order

-- the report of the core after an order
abbrev pub run_report : Loaded → KernelParts → List ℕ → List ℕ
run_report loaded k order = report_of (snapshot_of (length loaded.tasks) (coarse_after loaded k.code order))

-- Two legal orders of a loaded bundle whose cores have the same report are one order.
abbrev pub RunReportsTellOrders : Type 0
RunReportsTellOrders = (k : KernelParts) → IsKernel k → (loaded : Loaded) → IsLoaded loaded → (o p : List ℕ)
    → IsLegal loaded k.code o → IsLegal loaded k.code p → run_report loaded k o ≡ run_report loaded k p → o ≡ p

-- Whatever events a kernel's core has made, its report counts no unexplained entry.
abbrev pub NoEntryIsUnexplained : Type 0
NoEntryIsUnexplained = (k : KernelParts) → IsKernel k → (loaded : Loaded) → IsLoaded loaded → (events : List Event)
    → (snapshot_of (length loaded.tasks) (core_after loaded k.code events)).tally.unexplained ≡ 0
