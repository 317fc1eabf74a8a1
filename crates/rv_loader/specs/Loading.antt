-- What a bundle loads as, on so many harts (this project's own).
use Rattle.std.specs.Prelude.{ℕ, ◌==◌, if◌then◌else◌, List, [], ◌∷◌, map, Option, Some, None, Result, Ok, Err}
use Rattle.std.specs.List.{range_with_len, enumerate_from}
use Rattle.isa_model.specs.declared.task.Task.{Task}
use Rattle.isa_model.specs.TaskPlaces.{code_place, data_place}
use Rattle.isa_model.specs.Limits.{max_quantum}
use Rattle.core_model.specs.declared.plan.Plan.{Plan}
use Rattle.core_model.specs.declared.loaded.Loaded.{Loaded}
use Rattle.rv_asm.specs.declared.fault.AsmFault.{AsmFault}
use Rattle.bundle_text.specs.declared.bundle.Bundle.{Bundle}
use Rattle.bundle_text.specs.declared.bundle.PlanText.{PlanText}
use Rattle.bundle_text.specs.declared.bundle.TaskText.{TaskText}
use Rattle.rv_loader.specs.declared.coding.CodedTask.{CodedTask}
use Rattle.rv_loader.specs.declared.fault.LoadFault.{LoadFault}
use Rattle.rv_loader.specs.declared.fault.LoadFault.TheVariants.{Asm}
use Rattle.rv_loader.specs.Coding.{coded_tasks}
use Rattle.rv_loader.specs.Refusals.{refusal_of}

-- the plan of a hart without a plan line: the tail 4,096 and no quanta
abbrev pub missing_plan : Plan
missing_plan = record { quanta = []; tail = max_quantum }

-- the plan of a hart
abbrev pub plan_of : List PlanText → ℕ → Plan
plan_of [] hart = missing_plan
plan_of (line ∷ lines) hart = if line.hart == hart then line.plan else plan_of lines hart

-- a plan for each hart, in the order of their numbers
abbrev pub plans_of : List PlanText → ℕ → List Plan
plans_of lines harts = map (plan_of lines) (range_with_len 0 harts)

-- a task at the place of its number
abbrev pub task_at : ℕ × CodedTask → Task
task_at numbered = record {
  code_at = code_place numbered.0;
  data_at = data_place numbered.0;
  code = numbered.1.code;
  data_len = numbered.1.data_len;
  fuel = numbered.1.fuel;
  out_max = numbered.1.out_max;
  tape = numbered.1.tape;
}

-- the tasks at their places
abbrev pub placed_tasks : List CodedTask → List Task
placed_tasks tasks = map task_at (enumerate_from 0 tasks)

-- the bands of tasks
abbrev pub bands_of : List TaskText → List ℕ
bands_of tasks = map (λ (t : TaskText). t.band) tasks

-- The bands and the lists of worlds, events and order are the bundle's.
abbrev pub loaded_of : Bundle → ℕ → List CodedTask → Loaded
loaded_of bundle harts tasks = record {
  harts = harts;
  slots = bundle.slots;
  plans = plans_of bundle.plans harts;
  tasks = placed_tasks tasks;
  bands = bands_of bundle.tasks;
  worlds = bundle.worlds;
  events = bundle.events;
  order = bundle.order;
}

-- what is loaded, unless there is a refusal
abbrev pub unless_refused : Option LoadFault → Loaded → Result Loaded LoadFault
unless_refused (Some fault) loaded = Err fault
unless_refused None loaded = Ok loaded

-- The code of all tasks is assembled before anything is counted.
abbrev pub loading_of_coded : Bundle → ℕ → Result (List CodedTask) AsmFault → Result Loaded LoadFault
loading_of_coded bundle harts (Err fault) = Err (Asm fault)
loading_of_coded bundle harts (Ok tasks) = unless_refused (refusal_of bundle harts tasks) (loaded_of bundle harts tasks)

abbrev pub loading_of : Bundle → ℕ → Result Loaded LoadFault
loading_of bundle harts = loading_of_coded bundle harts (coded_tasks bundle.tasks)
