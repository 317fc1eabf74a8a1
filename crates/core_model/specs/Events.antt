-- What events are of, and what runs stand for (this project's own).
use Rattle.std.specs.Prelude.{◌≡◌, ℕ, List, length, replicate}
use Rattle.std.specs.List.{flat_map, sum_by}
use Rattle.core_model.specs.declared.event.Event.{Event}
use Rattle.core_model.specs.declared.event.Event.TheVariants.{Go, Tick}
use Rattle.core_model.specs.declared.event.EventRun.{EventRun}
use Rattle.core_model.specs.declared.event.OrderRun.{OrderRun}

-- the number of the hart that an event is of
abbrev pub hart_of : Event → ℕ
hart_of (Go hart) = hart
hart_of (Tick hart) = hart

-- the events of runs
abbrev pub events_of : List EventRun → List Event
events_of runs = flat_map (λ run. replicate run.times run.event) runs

-- the hart numbers of runs
abbrev pub order_of : List OrderRun → List ℕ
order_of runs = flat_map (λ run. replicate run.times run.hart) runs

-- how many events runs stand for
abbrev pub event_count : List EventRun → ℕ
event_count runs = sum_by (λ run. run.times) runs

-- how many entries of an order runs stand for
abbrev pub entry_count : List OrderRun → ℕ
entry_count runs = sum_by (λ run. run.times) runs

-- The counts are those of the runs written out.
pub record CountsAreLengths : Type 0 where
  pub events : (runs : List EventRun) → event_count runs ≡ length (events_of runs)
  pub entries : (runs : List OrderRun) → entry_count runs ≡ length (order_of runs)
