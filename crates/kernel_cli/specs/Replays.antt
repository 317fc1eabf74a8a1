-- What the core of a bundle comes to by an order, under the plans of its harts.
use Rattle.std.specs.Prelude.{ℕ, Bool, true, false, List, ◌++◌, Option, Some, None}
use Rattle.hart_model.specs.declared.probe.Probe.{Probe}
use Rattle.core_model.specs.declared.event.Event.{Event}
use Rattle.core_model.specs.declared.loaded.Loaded.{Loaded}
use Rattle.core_model.specs.Events.{order_of}
use Rattle.core_model.specs.KernelWords.{kernel_code}
use Rattle.core_model.specs.Orders.{fine_of}
use Rattle.order_laws.specs.Judging.{OrderEnd, Done, Illegal, Full, end_of_order}
use Rattle.report_text.specs.Listing.{listing_of}
use Rattle.kernel_cli.specs.Answer.{Answer, done, refused, log_full}
use Rattle.kernel_cli.specs.Refusals.{order_refusal}
use Rattle.kernel_cli.specs.Scripts.{most_before, report_by, log_by}

-- the events that an order stands for: for each entry those of its hart up to and with its next queue action
abbrev pub order_events : Loaded → List ℕ → List Event
order_events loaded order = fine_of loaded kernel_code order

-- the report of the core after an order
abbrev pub order_report : Loaded → List ℕ → List ℕ
order_report loaded order = report_by loaded (order_events loaded order)

-- those of the bundle's order, and its log
abbrev pub replay_events : Loaded → List Event
replay_events loaded = order_events loaded (order_of loaded.order)

abbrev pub replay_report : Loaded → List ℕ
replay_report loaded = order_report loaded (order_of loaded.order)

abbrev pub replay_log : Loaded → List Probe
replay_log loaded = log_by loaded (replay_events loaded)

-- How the run by the order ends: at its end; at its first entry that names a hart that there isn't or one that has found nothing; or, where
-- the log is kept, before an event that finds more entries than this.
abbrev pub replay_end : Option ℕ → Loaded → OrderEnd
replay_end most loaded = end_of_order most loaded kernel_code (order_of loaded.order)

-- the answer to an order by how its run ends, with this text where all of it is run
abbrev pub order_answer : OrderEnd → List ℕ → Answer
order_answer Done text = done text
order_answer (Illegal at) text = refused (order_refusal at)
order_answer Full text = log_full

-- the answer to the bundle's order: the report, or the log's entries and the report
abbrev pub replay_answer : Bool → Loaded → Answer
replay_answer false loaded = order_answer (replay_end None loaded) (replay_report loaded)
replay_answer true loaded = order_answer (replay_end (Some most_before) loaded) (listing_of (replay_log loaded) ++ replay_report loaded)
