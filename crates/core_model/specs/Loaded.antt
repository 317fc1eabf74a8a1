-- What a core may be made of (this project's own): harts that have a plan each, valid tasks at their places, and lists within the
-- limits.
use Rattle.std.specs.Prelude.{◌≡◌, ℕ, ◌+◌, ◌*◌, ◌<◌, ◌≤◌, ◌⊎◌, ⊤, List, [], ◌∷◌, length, All, slice_index_or}
use Rattle.std.specs.List.{sum_by}
use Rattle.isa_model.specs.declared.task.Task.{Task}
use Rattle.isa_model.specs.TaskPlaces.{code_place, data_place, IsValidTask}
use Rattle.core_model.specs.declared.plan.Plan.{Plan}
use Rattle.core_model.specs.declared.event.EventRun.{EventRun}
use Rattle.core_model.specs.declared.event.OrderRun.{OrderRun}
use Rattle.core_model.specs.declared.world.World.{World}
use Rattle.core_model.specs.declared.loaded.Loaded.{Loaded}
use Rattle.core_model.specs.Events.{hart_of, event_count, entry_count}
use Rattle.isa_model.specs.Limits.{max_harts, max_slots, max_tasks, max_tape_words, max_band, max_quantum, max_quanta, max_worlds, max_events, max_order_entries, max_action_bound}

-- How many queue actions there can be at most, by the quanta that the plans list, the sum of the fuels, the tasks and the harts. A
-- take that gives a context draws a listed quantum, or an instruction is executed before the give, or the fuel is used up, which
-- comes once for each task; and a hart's empty take is its last action.
abbrev pub action_bound : ℕ → ℕ → ℕ → ℕ → ℕ
action_bound quanta fuels tasks harts = 2 * (quanta + fuels + tasks) + harts

-- the bound of a core
abbrev pub action_bound_of : Loaded → ℕ
action_bound_of loaded =
    action_bound (sum_by (λ plan. length plan.quanta) loaded.plans) (sum_by (λ task. task.fuel) loaded.tasks) (length loaded.tasks) loaded.harts

pub record IsPlanWithinLimits (plan : Plan) : Type 0 where
  pub tail_low : 1 ≤ plan.tail
  pub tail_high : plan.tail ≤ max_quantum
  pub quanta : All (λ quantum. quantum ≤ max_quantum) plan.quanta
  pub quanta_high : length plan.quanta ≤ max_quanta

-- a valid task at the place of task number t
pub record IsTaskAt (t : ℕ) (task : Task) : Type 0 where
  pub code_at : task.code_at ≡ code_place t
  pub data_at : task.data_at ≡ data_place t
  pub valid : IsValidTask task

-- each task is valid and at the place of its number
abbrev pub AreTasksAtPlaces : List Task → Type 0
AreTasksAtPlaces tasks = (t : ℕ) (task : Task) → t < length tasks → IsTaskAt t (slice_index_or tasks t task)

-- all worlds have as many words as the first one
abbrev pub AreAsLong : List World → Type 0
AreAsLong [] = ⊤
AreAsLong (first ∷ others) = All (λ world. length world.tape ≡ length first.tape) others

pub record IsEventRunWithinLimits (run : EventRun) : Type 0 where
  pub hart : hart_of run.event < max_harts
  pub times : 1 ≤ run.times

pub record IsOrderRunWithinLimits (run : OrderRun) : Type 0 where
  pub hart : run.hart < max_harts
  pub times : 1 ≤ run.times

pub record IsWithinLimits (loaded : Loaded) : Type 0 where
  pub harts_low : 1 ≤ loaded.harts
  pub harts_high : loaded.harts ≤ max_harts
  pub slots_low : 1 ≤ loaded.slots
  pub slots_high : loaded.slots ≤ max_slots
  pub plan_each : length loaded.plans ≡ loaded.harts
  pub plans : All IsPlanWithinLimits loaded.plans
  pub tasks_low : 1 ≤ length loaded.tasks
  pub tasks_high : length loaded.tasks ≤ max_tasks
  pub tasks : AreTasksAtPlaces loaded.tasks
  pub band_each : length loaded.bands ≡ length loaded.tasks
  pub bands : All (λ band. band ≤ max_band) loaded.bands
  pub worlds_high : length loaded.worlds ≤ max_worlds
  pub worlds : All (λ world. length world.tape ≤ max_tape_words) loaded.worlds
  pub worlds_as_long : AreAsLong loaded.worlds
  pub events : All IsEventRunWithinLimits loaded.events
  pub events_high : event_count loaded.events ≤ max_events
  pub order : All IsOrderRunWithinLimits loaded.order
  pub order_high : entry_count loaded.order ≤ max_order_entries

-- A core may be made of it.
pub record IsLoaded (loaded : Loaded) : Type 0 where
  pub limits : IsWithinLimits loaded
  pub bound : action_bound_of loaded ≤ max_action_bound

-- an address of a task's code or data
abbrev pub IsAddressOf : Task → ℕ → Type 0
IsAddressOf task at =
    ((task.code_at ≤ at) × (at < task.code_at + 4 * length task.code)) ⊎ ((task.data_at ≤ at) × (at < task.data_at + 4 * task.data_len))

-- No address is one of two tasks.
abbrev pub TasksAreApart : Type 0
TasksAreApart = (tasks : List Task) → AreTasksAtPlaces tasks → (t u : ℕ) (task : Task) → t < length tasks → u < length tasks
    → (at : ℕ) → IsAddressOf (slice_index_or tasks t task) at → IsAddressOf (slice_index_or tasks u task) at → t ≡ u
