-- A core on its way through the events of its bundle, or through its order.
use Rattle.std.specs.Prelude.{◌≡◌, ℕ, ◌+◌, ⊤, List, ◌++◌, length, Some, Result, Ok, Err, Vec}
use Rattle.std.specs.declared.alloc.Global.{Global}
use Rattle.hart_model.specs.declared.probe.Probe.{Probe}
use Rattle.core_model.specs.declared.event.Event.{Event}
use Rattle.core_model.specs.declared.loaded.Loaded.{Loaded}
use Rattle.core_model.specs.Loaded.{IsLoaded}
use Rattle.core_model.specs.Events.{events_of, order_of}
use Rattle.core_model.specs.KernelWords.{kernel_code}
use Rattle.core_model.specs.Core.{CoreState, core_after}
use Rattle.core_model.specs.Orders.{IsLegal}
use Rattle.core_invariant.specs.KernelStates.{emitted_parts}
use Rattle.order_laws.specs.CoarseRuns.{coarse_state}
use Rattle.order_laws.specs.LongLogs.{is_log_above}
use Rattle.order_laws.specs.Judging.{OrderEnd, Done, Illegal, Full, end_from}
use Rattle.probe_log.specs.Kept.{Kept}
use Rattle.kernel_core.specs.History.{History, history_at_boot, CoreValue, IsCoreOf}
use Rattle.kernel_core.specs.PacedHistory.{PacedHistory, IsPacedCoreOf, ordered}
use Rattle.kernel_cli.specs.declared.replays.OrderFault.{OrderFault}
use Rattle.kernel_cli.specs.declared.replays.OrderFault.TheVariants as faults
use Rattle.kernel_cli.specs.Scripts.{entries_each, is_script_above}
use Rattle.kernel_cli.specs.Replays.{replay_events, replay_end}

-- these events of a loaded bundle, under the kernel's own code, and the core after them
abbrev pub told_of : Loaded → List Event → History
told_of loaded events = record (history_at_boot loaded emitted_parts) { events = events }

abbrev pub core_by : Loaded → List Event → CoreState
core_by loaded events = core_after loaded kernel_code events

-- It is the core after all of these events, and its keeper stands for their log.
pub record IsPlayed {K : Type 0} (stands : K → List Probe → Type 0) (loaded : Loaded) (events : List Event) (c : CoreValue K) : Type 0 where
  pub core : IsCoreOf (told_of loaded events) c
  pub keeper : stands c.log.keeper (core_by loaded events).log

-- a log that is kept stands for its own entries alone
abbrev pub HasEntries : Kept → List Probe → Type 0
HasEntries log entries = log.entries ≡ entries

-- The core was told the events of its bundle but for those that are left, and its keeper stands for the log so far. An event may have no
-- room in it just where the log has more than `most` entries before.
pub record StandsBefore {K : Type 0} (stands : K → List Probe → Type 0) (room_of : K → ℕ) (most : ℕ) (loaded : Loaded) (left : List Event)
    (c : CoreValue K) : Type 0 where
  pub done : List Event
  pub all : done ++ left ≡ events_of loaded.events
  pub core : IsCoreOf (told_of loaded done) c
  pub keeper : stands c.log.keeper (core_by loaded done).log
  pub actions : c.run.actions ≡ length (events_of loaded.events)
  pub room : room_of c.log.keeper + length (core_by loaded done).log ≡ most + entries_each
  pub above : is_log_above most kernel_code.words (core_by loaded done) left ≡ is_script_above most loaded

-- these entries of an order, and the core that was told them
abbrev pub told_order : Loaded → List ℕ → PacedHistory
told_order loaded order = ordered loaded emitted_parts order

-- The core was told the order of the bundle but for the entries that are left, and its keeper stands for the log so far. How the run ends is
-- how it ends from here on, at this place.
pub record StandsAlong {K : Type 0} (stands : K → List Probe → Type 0) (room_of : K → ℕ) (most : ℕ) (loaded : Loaded) (at : ℕ) (left : List ℕ)
    (c : CoreValue K) : Type 0 where
  pub is_loaded : IsLoaded loaded
  pub done : List ℕ
  pub all : done ++ left ≡ order_of loaded.order
  pub place : at ≡ length done
  pub core : IsPacedCoreOf (told_order loaded done) c
  pub legal : IsLegal loaded kernel_code done
  pub keeper : stands c.log.keeper (core_by loaded (told_order loaded done).history.events).log
  pub actions : c.run.actions ≡ length (order_of loaded.order)
  pub room : room_of c.log.keeper + length (core_by loaded (told_order loaded done).history.events).log ≡ most + entries_each
  pub end : end_from (Some most) kernel_code.words loaded.plans (coarse_state loaded kernel_code done) at left ≡ replay_end (Some most) loaded

-- why a run by an order didn't come to its end, and how it ends; memory may be wanting anywhere
abbrev pub IsEndBy : OrderFault → OrderEnd → Type 0
IsEndBy (faults.Bad at) end = end ≡ Illegal at
IsEndBy faults.LogFull end = end ≡ Full
IsEndBy faults.Memory end = ⊤

-- what a run by the order of a bundle came to, where the log may have so many entries before an event
abbrev pub IsReplayed : {K : Type 0} → (K → List Probe → Type 0) → ℕ → Loaded → Result (CoreValue K) OrderFault → Type 0
IsReplayed stands most loaded (Ok core) = IsPlayed stands loaded (replay_events loaded) core × (replay_end (Some most) loaded ≡ Done)
IsReplayed stands most loaded (Err fault) = IsEndBy fault (replay_end (Some most) loaded)

-- the text of a run that ends so
abbrev pub IsReplay : OrderEnd → List ℕ → Result (Vec ℕ Global) OrderFault → Type 0
IsReplay end text (Ok written) = (end ≡ Done) × (written.items ≡ text)
IsReplay end text (Err fault) = IsEndBy fault end
