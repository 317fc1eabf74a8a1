-- What the core of a bundle comes to by a list of events, and whether its log can be kept.
use Rattle.std.specs.Prelude.{◌≡◌, ◌↔◌, ℕ, ◌<◌, Bool, true, List, ◌∷◌, ◌++◌, length, Option, Some, None, if◌then◌else◌}
use Rattle.hart_model.specs.declared.probe.Probe.{Probe}
use Rattle.core_model.specs.declared.event.Event.{Event}
use Rattle.core_model.specs.declared.loaded.Loaded.{Loaded}
use Rattle.core_model.specs.Events.{events_of}
use Rattle.core_model.specs.KernelWords.{kernel_code}
use Rattle.core_model.specs.Core.{boot_core, core_after, log_of}
use Rattle.order_laws.specs.LongLogs.{is_log_above}
use Rattle.kernel_core.specs.Snapshots.{snapshot_of}
use Rattle.report_text.specs.Explanations.{explain_text_of}
use Rattle.report_text.specs.Listing.{listing_of}
use Rattle.report_text.specs.Report.{report_of}

-- the report of the core after these events
abbrev pub report_by : Loaded → List Event → List ℕ
report_by loaded events = report_of (snapshot_of (length loaded.tasks) (core_after loaded kernel_code events))

-- the log of these events
abbrev pub log_by : Loaded → List Event → List Probe
log_by loaded events = log_of loaded kernel_code events

-- the report of the core after all events of the bundle, and their log
abbrev pub script_report : Loaded → List ℕ
script_report loaded = report_by loaded (events_of loaded.events)

abbrev pub script_log : Loaded → List Probe
script_log loaded = log_by loaded (events_of loaded.events)

-- how much of its room a keeper has to have left before an event
abbrev pub entries_each : ℕ
entries_each = 6

-- A log that is kept has room for 1,000,000 entries, so before an event it may have this many.
abbrev pub most_before : ℕ
most_before = 999994

-- Before one of the events of the bundle the log has more entries than this.
abbrev pub is_script_above : ℕ → Loaded → Bool
is_script_above most loaded = is_log_above most kernel_code.words (boot_core loaded kernel_code) (events_of loaded.events)

-- The log is full: before one of the events it has more than 999,994 entries, so that of its room for 1,000,000 fewer than six are left.
abbrev pub is_log_full : Loaded → Bool
is_log_full loaded = is_script_above most_before loaded

-- the text of a log, and the report, unless the log is full
abbrev pub logged_text : Loaded → List ℕ → Option (List ℕ)
logged_text loaded text = if is_log_full loaded then None else Some (text ++ script_report loaded)

-- the log's entries, and what they show of the tasks
abbrev pub probes_text : Loaded → Option (List ℕ)
probes_text loaded = logged_text loaded (listing_of (script_log loaded))

abbrev pub explanations_text : Loaded → Option (List ℕ)
explanations_text loaded = logged_text loaded (explain_text_of loaded.tasks (script_log loaded))

-- The events of the bundle are a front, one event more and a rest, and the log of the front has more than 999,994 entries.
pub record HasLongLog (loaded : Loaded) : Type 0 where
  pub front : List Event
  pub event : Event
  pub rest : List Event
  pub parts : events_of loaded.events ≡ front ++ event ∷ rest
  pub long : most_before < length (log_of loaded kernel_code front)

-- The log is full exactly where some beginning of the bundle's events, short of all of them, has a log of more than 999,994 entries.
abbrev pub LogIsFullExactly : Type 0
LogIsFullExactly = (loaded : Loaded) → (is_log_full loaded ≡ true) ↔ HasLongLog loaded
