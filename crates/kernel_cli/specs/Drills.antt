-- The run of a bundle for one hart, under the kernel of this project or another one, whose hart goes on until it finds nothing.
use Rattle.std.specs.Prelude.{◌≡◌, ℕ, ◌+◌, ◌*◌, ◌-◌, ◌^◌, ◌≤◌, true, List, length, get_or}
use Rattle.std.specs.List.{AllByRecursion}
use Rattle.isa_model.specs.Limits.{max_action_bound}
use Rattle.hart_model.specs.declared.probe.Probe.{Probe}
use Rattle.core_model.specs.declared.loaded.Loaded.{Loaded}
use Rattle.core_model.specs.Loaded.{IsLoaded}
use Rattle.core_model.specs.KernelWords.{KernelCodeState}
use Rattle.core_model.specs.Core.{CoreState, core_after}
use Rattle.core_model.specs.Orders.{boot_pace, fine_of, IsLegal}
use Rattle.core_invariant.specs.KernelStates.{KernelParts}
use Rattle.order_laws.specs.CoarseRuns.{coarse_state}
use Rattle.kernel_core.specs.History.{CoreValue, IsCoreOf}
use Rattle.kernel_core.specs.PacedHistory.{IsPacedCoreOf, ordered}
use Rattle.kernel_core.specs.Snapshots.{snapshot_of}
use Rattle.report_text.specs.Report.{report_of}

-- An order of hart 0 alone: it is legal, and after it hart 0 has found nothing.
pub record IsDrillOrder (code : KernelCodeState) (loaded : Loaded) (order : List ℕ) : Type 0 where
  pub legal : IsLegal loaded code order
  pub alone : AllByRecursion (λ hart. hart ≡ 0) order
  pub stopped : (get_or (coarse_state loaded code order).paces 0 boot_pace).has_stopped ≡ true

-- the core after an order, and its report
abbrev pub ordered_core : KernelCodeState → Loaded → List ℕ → CoreState
ordered_core code loaded order = core_after loaded code (fine_of loaded code order)

abbrev pub drill_report : KernelCodeState → Loaded → List ℕ → List ℕ
drill_report code loaded order = report_of (snapshot_of (length loaded.tasks) (ordered_core code loaded order))

-- how many queue actions the core has room for
abbrev pub drill_actions : ℕ
drill_actions = max_action_bound

-- The core was told an order of hart 0 alone, and its keeper stands for the log so far; an entry took at most 30,000 of its room.
pub record IsDrilling {K : Type 0} (stands : K → List Probe → Type 0) (room_of : K → ℕ) (kernel : KernelParts) (loaded : Loaded) (done : List ℕ)
    (c : CoreValue K) : Type 0 where
  pub is_loaded : IsLoaded loaded
  pub core : IsPacedCoreOf (ordered loaded kernel done) c
  pub legal : IsLegal loaded kernel.code done
  pub alone : AllByRecursion (λ hart. hart ≡ 0) done
  pub keeper : stands c.log.keeper (ordered_core kernel.code loaded done).log
  pub actions : c.run.actions ≡ drill_actions
  pub room : 2 ^ 64 - 1 ≤ room_of c.log.keeper + 30000 * length done

-- The core was told such an order to its end.
pub record IsDrilled {K : Type 0} (stands : K → List Probe → Type 0) (kernel : KernelParts) (loaded : Loaded) (c : CoreValue K) : Type 0 where
  pub order : List ℕ
  pub is : IsDrillOrder kernel.code loaded order
  pub core : IsCoreOf (ordered loaded kernel order).history c
  pub keeper : stands c.log.keeper (ordered_core kernel.code loaded order).log
