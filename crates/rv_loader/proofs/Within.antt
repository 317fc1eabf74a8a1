-- What is loaded is within the limits.
use Rattle.std.proofs.Common.{◌≡◌, ℕ, ◌+◌, ◌<◌, ◌≤◌, Bool, true, false, cond, ◌==◌, List, [], ◌∷◌, length, map, Ok, refl, ap, sym, ◌∙◌, inl, arith}
use Rattle.std.specs.List.{All, AllByRecursion, range_with_len, enumerate_from, sum_by, slice_index_or}
use Rattle.std.proofs.lemmas.List.{get_or-map, length-map}
use Rattle.std.proofs.lemmas.List.Elements.{All-from_recursion, All-weaker, All-map, All-nil, All-cons, All-head, All-tail, All-contains}
use Rattle.std.proofs.lemmas.List.Sums.{sum_by-cons}
use Rattle.std.proofs.lemmas.List.FromFn.{length-map-range_with_len, length-enumerate_from, get_or-enumerate_from}
use Rattle.isa_model.specs.declared.task.Task.{Task}
use Rattle.core_model.specs.declared.plan.Plan.{Plan}
use Rattle.core_model.specs.declared.world.World.{World}
use Rattle.core_model.specs.declared.event.Event.{Event}
use Rattle.core_model.specs.declared.loaded.Loaded.{Loaded}
use Rattle.core_model.specs.Events.{hart_of}
use Rattle.isa_model.specs.Limits.{max_harts, max_tasks, max_band, max_quanta}
use Rattle.core_model.specs.Loaded.{action_bound_of, IsPlanWithinLimits, IsTaskAt, AreTasksAtPlaces, AreAsLong, IsEventRunWithinLimits, IsOrderRunWithinLimits, IsWithinLimits}
use Rattle.bundle_text.specs.declared.bundle.Bundle.{Bundle}
use Rattle.bundle_text.specs.declared.bundle.PlanText.{PlanText}
use Rattle.bundle_text.specs.declared.bundle.TaskText.{TaskText}
use Rattle.bundle_text.specs.Range.{IsInRange, IsTaskInRange, IsPlanInRange, IsQuantum, IsEventRunInRange, IsOrderRunInRange, AreWorldsAsLong}
use Rattle.rv_loader.specs.declared.coding.CodedTask.{CodedTask}
use Rattle.rv_loader.specs.Coding.{coded_tasks}
use Rattle.rv_loader.specs.Refusals.{bound_of}
use Rattle.rv_loader.specs.Loading.{missing_plan, plan_of, task_at, placed_tasks, loaded_of, loading_of}
use Rattle.rv_loader.specs.Valid.{IsLoadedSoundly, HasPlansOfLines}
use Rattle.rv_loader.proofs.Zip.{IsCoded, AreCoded, are_coded, length-coded, fuels-coded}
use Rattle.rv_loader.proofs.Unrefused.{HasFewWords, IsUnrefused, unrefused}
use Rattle.rv_loader.proofs.Outcomes.{loaded_from}
use Rattle.rv_loader.proofs.Places.{length-placed}
use Rattle.rv_loader.proofs.Plans.{plan_at, plan_of-named, plan_of-unnamed, quanta-plans_of}

-- plans

missing_within : IsPlanWithinLimits missing_plan
missing_within = record { tail_low = omega arith; tail_high = omega arith; quanta = All-nil _; quanta_high = omega arith }

line_within : (line : PlanText) → IsPlanInRange line → length line.plan.quanta ≤ max_quanta → IsPlanWithinLimits line.plan
line_within line range few =
    record { tail_low = range.tail_low; tail_high = range.tail_high; quanta = All-from_recursion IsQuantum line.plan.quanta range.quanta; quanta_high = few }

chosen_within : (b : Bool) (here later : Plan) → IsPlanWithinLimits here → IsPlanWithinLimits later → IsPlanWithinLimits (cond b here later)
chosen_within true here later h k = h
chosen_within false here later h k = k

plan_within : (lines : List PlanText) (hart : ℕ) → AllByRecursion (λ line. IsPlanWithinLimits line.plan) lines → IsPlanWithinLimits (plan_of lines hart)
plan_within [] hart h = missing_within
plan_within (line ∷ lines) hart h = chosen_within (line.hart == hart) line.plan (plan_of lines hart) h.0 (plan_within lines hart h.1)

lines_within : (lines : List PlanText) → AllByRecursion IsPlanInRange lines → All (λ line. length line.plan.quanta ≤ max_quanta) lines
    → AllByRecursion (λ line. IsPlanWithinLimits line.plan) lines
lines_within [] range few = tt
lines_within (line ∷ lines) range few = (
  line_within line range.0 (All-head (λ l. length l.plan.quanta ≤ max_quanta) line lines few),
  lines_within lines range.1 (All-tail (λ l. length l.plan.quanta ≤ max_quanta) line lines few),
)

-- tasks

-- the numbers of a task but its place
pub record IsSmall (task : CodedTask) : Type 0 where
  pub few : HasFewWords task
  pub data_words : task.data_len ≤ 1024
  pub fuel_least : 1 ≤ task.fuel
  pub fuel_limit : task.fuel ≤ 100000
  pub out_limit : task.out_max ≤ 4096

small_of_range : (text : TaskText) (task : CodedTask) → IsCoded text task → IsTaskInRange text → HasFewWords task → IsSmall task
small_of_range text task coded range few =
    let data_len : task.data_len ≡ text.data_len = ap (λ t. t.data_len) coded.task_is in
    let fuel : task.fuel ≡ text.fuel = ap (λ t. t.fuel) coded.task_is in
    let out_max : task.out_max ≡ text.out_max = ap (λ t. t.out_max) coded.task_is in
    record {
      few = few;
      data_words = rw data_len range.data_len;
      fuel_least = rw fuel range.fuel_low;
      fuel_limit = rw fuel range.fuel_high;
      out_limit = rw out_max range.out_max;
    }

all_small : (texts : List TaskText) (tasks : List CodedTask) → AreCoded texts tasks → AllByRecursion IsTaskInRange texts → All HasFewWords tasks → All IsSmall tasks
all_small [] [] zip range few = All-nil IsSmall
all_small [] (task ∷ tasks) zip range few = absurd zip
all_small (text ∷ texts) [] zip range few = absurd zip
all_small (text ∷ texts) (task ∷ tasks) zip range few =
    All-cons IsSmall task tasks (small_of_range text task zip.0 range.0 (All-head HasFewWords task tasks few))
    (all_small texts tasks zip.1 range.1 (All-tail HasFewWords task tasks few))

valid_at : (t : ℕ) (task : CodedTask) → t < max_tasks → IsSmall task → IsTaskAt t (task_at (t, task))
valid_at t task lt small =
    let code = small.few.code in
    record {
      code_at = refl;
      data_at = refl;
      valid = record {
        code_aligned = omega arith;
        data_aligned = omega arith;
        code_above = omega arith;
        data_above = omega arith;
        code_end = omega arith;
        data_end = omega (arith, small.data_words);
        apart = inl (omega arith);
        code_limit = small.few.code;
        data_limit = small.data_words;
        fuel_least = small.fuel_least;
        fuel_limit = small.fuel_limit;
        out_limit = small.out_limit;
        tape_limit = small.few.tape;
      };
    }

-- a task without its place
abbrev unplaced : Task → CodedTask
unplaced task = record { code = task.code; data_len = task.data_len; fuel = task.fuel; out_max = task.out_max; tape = task.tape }

placed_at : (tasks : List CodedTask) (t : ℕ) (d : Task) → t < length tasks → slice_index_or (placed_tasks tasks) t d ≡ task_at (t, slice_index_or tasks t (unplaced d))
placed_at tasks t d lt =
    let numbered = enumerate_from 0 tasks in
    let first : ℕ × CodedTask = (0, unplaced d) in
    get_or-map task_at numbered t first d (omega (arith, length-enumerate_from 0 tasks)) ∙ ap task_at (get_or-enumerate_from 0 tasks t first lt)
    ∙ ap (λ k. task_at (k, slice_index_or tasks t (unplaced d))) (let e : 0 + t ≡ t = omega arith in e)

at_places : (tasks : List CodedTask) → length tasks ≤ max_tasks → All IsSmall tasks → AreTasksAtPlaces (placed_tasks tasks)
at_places tasks few small t d lt =
    let within : t < length tasks = omega (arith, length-placed tasks) in
    rw (placed_at tasks t d within) (valid_at t (slice_index_or tasks t (unplaced d)) (omega arith) (small t (unplaced d) within))

fuels-placed : (n : ℕ) (tasks : List CodedTask) → sum_by (λ task. task.fuel) (map task_at (enumerate_from n tasks)) ≡ sum_by (λ task. task.fuel) tasks
fuels-placed n [] = refl
fuels-placed n (task ∷ tasks) =
    sum_by-cons (λ t. t.fuel) (task_at (n, task)) (map task_at (enumerate_from (n + 1) tasks))
    ∙ ap (λ m. task.fuel + m) (fuels-placed (n + 1) tasks)
    ∙ sym (sum_by-cons (λ t. t.fuel) task tasks)

-- worlds, events, order

as_long : (worlds : List World) → AreWorldsAsLong worlds → AreAsLong worlds
as_long [] h = tt
as_long (first ∷ others) h = All-from_recursion _ others h

event_hart : (event : Event) → hart_of event ≤ 7 → hart_of event < 8
event_hart event h = omega arith

bound_is : (bundle : Bundle) (harts : ℕ) (tasks : List CodedTask) → IsInRange bundle → AreCoded bundle.tasks tasks → IsUnrefused bundle harts tasks
    → action_bound_of (loaded_of bundle harts tasks) ≡ bound_of bundle harts
bound_is bundle harts tasks range zip facts =
    omega (arith, quanta-plans_of bundle.plans harts range.plans_apart facts.harts_there, fuels-placed 0 tasks, fuels-coded bundle.tasks tasks zip, length-placed tasks, length-coded bundle.tasks tasks zip)

bands-within : (texts : List TaskText) → AllByRecursion IsTaskInRange texts → AllByRecursion (λ (t : TaskText). t.band ≤ max_band) texts
bands-within [] range = tt
bands-within (text ∷ texts) range = (range.0.band, bands-within texts range.1)

limits_hold : (bundle : Bundle) (harts : ℕ) (tasks : List CodedTask) → 1 ≤ harts → harts ≤ max_harts → IsInRange bundle → AreCoded bundle.tasks tasks → IsUnrefused bundle harts tasks
    → IsWithinLimits (loaded_of bundle harts tasks)
limits_hold bundle harts tasks low high range zip facts =
    let small = all_small bundle.tasks tasks zip range.tasks facts.words_high in
    let plans = lines_within bundle.plans range.plans facts.quanta_high in
    record {
      harts_low = low;
      harts_high = high;
      slots_low = range.slots_low;
      slots_high = range.slots_high;
      plan_each = length-map-range_with_len (plan_of bundle.plans) 0 harts;
      plans = All-map IsPlanWithinLimits (plan_of bundle.plans) (range_with_len 0 harts) (λ k d lt. plan_within bundle.plans _ plans);
      tasks_low = rw (length-placed tasks) facts.tasks_low;
      tasks_high = rw (length-placed tasks) facts.tasks_high;
      tasks = at_places tasks facts.tasks_high small;
      band_each = length-map bundle.tasks (λ (t : TaskText). t.band) ∙ length-coded bundle.tasks tasks zip ∙ sym (length-placed tasks);
      bands = All-map (λ (band : ℕ). band ≤ max_band) (λ (t : TaskText). t.band) bundle.tasks (All-from_recursion _ bundle.tasks (bands-within bundle.tasks range.tasks));
      worlds_high = facts.worlds_high;
      worlds = facts.tapes_high;
      worlds_as_long = as_long bundle.worlds range.worlds_as_long;
      events = All-weaker IsEventRunInRange IsEventRunWithinLimits (λ run r. record { hart = event_hart run.event r.hart; times = r.times.low }) bundle.events (All-from_recursion _ bundle.events range.events);
      events_high = facts.events_high;
      order = All-weaker IsOrderRunInRange IsOrderRunWithinLimits (λ run r. record { hart = omega (arith, r.hart); times = r.times.low }) bundle.order (All-from_recursion _ bundle.order range.order);
      order_high = facts.order_high;
    }

pub loading_sound : (bundle : Bundle) (harts : ℕ) (loaded : Loaded) → 1 ≤ harts → harts ≤ max_harts → IsInRange bundle → loading_of bundle harts ≡ Ok loaded
    → IsLoadedSoundly bundle harts loaded
loading_sound bundle harts loaded low high range h =
    let from = loaded_from bundle harts (coded_tasks bundle.tasks) loaded h in
    let zip = are_coded bundle.tasks from.tasks from.coded_is in
    let facts = unrefused bundle harts from.tasks from.refusal in
    let bound = bound_is bundle harts from.tasks range zip facts in
    let here : IsLoadedSoundly bundle harts (loaded_of bundle harts from.tasks) = record {
      sound = record { limits = limits_hold bundle harts from.tasks low high range zip facts; bound = omega (arith, bound, facts.bound_high) };
      bound = bound;
    } in
    rw from.loaded_is here

pub plans_of_lines : (bundle : Bundle) (harts : ℕ) (loaded : Loaded) → IsInRange bundle → loading_of bundle harts ≡ Ok loaded → HasPlansOfLines bundle harts loaded
plans_of_lines bundle harts loaded range h =
    let from = loaded_from bundle harts (coded_tasks bundle.tasks) loaded h in
    let facts = unrefused bundle harts from.tasks from.refusal in
    let here : HasPlansOfLines bundle harts (loaded_of bundle harts from.tasks) = record {
      named = λ line within other.
          plan_at bundle.plans harts line.hart other (All-contains (λ l. l.hart < harts) bundle.plans line facts.harts_there within)
          ∙ plan_of-named bundle.plans line range.plans_apart within;
      missing = λ hart lt unnamed other. plan_at bundle.plans harts hart other lt ∙ plan_of-unnamed bundle.plans hart unnamed;
    } in
    rw from.loaded_is here
