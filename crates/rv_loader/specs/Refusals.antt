-- Why a bundle isn't loaded, once its code is words (this project's own). Each refusal is a function of what it judges; they are
-- tried one after the other.
use Rattle.std.specs.Prelude.{ℕ, ◌&&◌, nat_lt, nat_le, if◌then◌else◌, List, [], ◌∷◌, length, map, Option, Some, None}
use Rattle.std.specs.Option.{option_or}
use Rattle.std.specs.List.{sum_by}
use Rattle.core_model.specs.declared.event.EventRun.{EventRun}
use Rattle.core_model.specs.declared.event.OrderRun.{OrderRun}
use Rattle.core_model.specs.declared.world.World.{World}
use Rattle.core_model.specs.Events.{event_count, entry_count}
use Rattle.isa_model.specs.Limits.{max_tasks, max_code_words, max_tape_words, max_quanta, max_worlds, max_events, max_order_entries, max_action_bound}
use Rattle.core_model.specs.Loaded.{action_bound}
use Rattle.bundle_text.specs.declared.bundle.Bundle.{Bundle}
use Rattle.bundle_text.specs.declared.bundle.PlanText.{PlanText}
use Rattle.bundle_text.specs.declared.bundle.TaskText.{TaskText}
use Rattle.rv_loader.specs.declared.coding.CodedTask.{CodedTask}
use Rattle.rv_loader.specs.declared.fault.LoadFault.{LoadFault}
use Rattle.rv_loader.specs.declared.fault.LoadFault.TheVariants.{Limit, PlanForMissingHart, TooLong}
use Rattle.rv_loader.specs.declared.fault.What.{What}
use Rattle.rv_loader.specs.declared.fault.What.TheVariants.{Tasks, Code, Tape, Quanta, Worlds, Events, Order}

-- the first refusal that there is
abbrev pub first_of : List (Option LoadFault) → Option LoadFault
first_of [] = None
first_of (tried ∷ others) = option_or tried (first_of others)

-- the least number that is allowed
abbrev pub least : What → ℕ
least Tasks = 1
least _ = 0

-- the greatest number that is allowed
abbrev pub most : What → ℕ
most Tasks = max_tasks
most Code = max_code_words
most Tape = max_tape_words
most Quanta = max_quanta
most Worlds = max_worlds
most Events = max_events
most Order = max_order_entries

-- a number that is outside of its range
abbrev pub limit_refusal : What → ℕ → Option LoadFault
limit_refusal what got = if nat_le (least what) got && nat_le got (most what) then None else Some (Limit what got)

abbrev pub tasks_refusal : List CodedTask → Option LoadFault
tasks_refusal tasks = limit_refusal Tasks (length tasks)

-- the words of code, and then those of the tape
abbrev pub task_refusal : CodedTask → Option LoadFault
task_refusal task = first_of (limit_refusal Code (length task.code) ∷ limit_refusal Tape (length task.tape) ∷ [])

abbrev pub quanta_refusal : PlanText → Option LoadFault
quanta_refusal line = limit_refusal Quanta (length line.plan.quanta)

abbrev pub worlds_refusal : List World → Option LoadFault
worlds_refusal worlds = limit_refusal Worlds (length worlds)

abbrev pub world_refusal : World → Option LoadFault
world_refusal world = limit_refusal Tape (length world.tape)

abbrev pub events_refusal : List EventRun → Option LoadFault
events_refusal runs = limit_refusal Events (event_count runs)

abbrev pub order_refusal : List OrderRun → Option LoadFault
order_refusal runs = limit_refusal Order (entry_count runs)

-- The limits are tried in this order: tasks, then code and tape task by task, quanta in the order of the plan lines, worlds, their
-- words in their order, events, order.
abbrev pub limits_refusal : Bundle → List CodedTask → Option LoadFault
limits_refusal bundle tasks = first_of (
    tasks_refusal tasks
    ∷ first_of (map task_refusal tasks)
    ∷ first_of (map quanta_refusal bundle.plans)
    ∷ worlds_refusal bundle.worlds
    ∷ first_of (map world_refusal bundle.worlds)
    ∷ events_refusal bundle.events
    ∷ order_refusal bundle.order
    ∷ [])

-- a plan line of a hart that isn't there
abbrev pub hart_refusal : ℕ → PlanText → Option LoadFault
hart_refusal harts line = if nat_lt line.hart harts then None else Some (PlanForMissingHart line.hart)

-- how many quanta all plan lines list
abbrev pub quanta_listed : List PlanText → ℕ
quanta_listed lines = sum_by (λ line. length line.plan.quanta) lines

-- the sum of the fuels
abbrev pub fuels_stated : List TaskText → ℕ
fuels_stated texts = sum_by (λ text. text.fuel) texts

-- the bound of the queue actions of a bundle on so many harts
abbrev pub bound_of : Bundle → ℕ → ℕ
bound_of bundle harts = action_bound (quanta_listed bundle.plans) (fuels_stated bundle.tasks) (length bundle.tasks) harts

-- a bound that is too great
abbrev pub bound_refusal : ℕ → Option LoadFault
bound_refusal bound = if nat_le bound max_action_bound then None else Some (TooLong bound)

-- The limits come first, then plan lines in their order, then the bound.
abbrev pub refusal_of : Bundle → ℕ → List CodedTask → Option LoadFault
refusal_of bundle harts tasks =
    first_of (limits_refusal bundle tasks ∷ first_of (map (hart_refusal harts) bundle.plans) ∷ bound_refusal (bound_of bundle harts) ∷ [])
