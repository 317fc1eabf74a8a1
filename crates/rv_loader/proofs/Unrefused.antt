-- What it says of a bundle that nothing is refused.
use Rattle.std.proofs.Common.{◌≡◌, ℕ, ◌<◌, ◌≤◌, ◌&&◌, true, nat_lt, nat_le, cond, List, [], ◌∷◌, length, map, Option, Some, None, ap, arith, tests}
use Rattle.std.specs.List.{All}
use Rattle.std.proofs.lemmas.List.Elements.{All-from_recursion, recursion_from_All, All-weaker}
use Rattle.core_model.specs.Events.{event_count, entry_count}
use Rattle.isa_model.specs.Limits.{max_tasks, max_code_words, max_tape_words, max_quanta, max_worlds, max_events, max_order_entries, max_action_bound}
use Rattle.bundle_text.specs.declared.bundle.Bundle.{Bundle}
use Rattle.rv_loader.specs.declared.coding.CodedTask.{CodedTask}
use Rattle.rv_loader.specs.declared.fault.LoadFault.{LoadFault}
use Rattle.rv_loader.specs.declared.fault.LoadFault.TheVariants.{Limit}
use Rattle.rv_loader.specs.declared.fault.What.{What}
use Rattle.rv_loader.specs.declared.fault.What.TheVariants.{Tasks, Code, Tape, Quanta, Worlds, Events, Order}
use Rattle.rv_loader.specs.Refusals.{first_of, least, most, limit_refusal, task_refusal, tasks_refusal, quanta_refusal, worlds_refusal, world_refusal, events_refusal, order_refusal, limits_refusal, hart_refusal, bound_of, bound_refusal, refusal_of}
use Rattle.rv_loader.proofs.FirstOf.{all_none, none_of, all_none-map, none_of-map, limit_kept, guard_none}

-- the code and the tape of a task have few words
pub record HasFewWords (task : CodedTask) : Type 0 where
  pub code : length task.code ≤ max_code_words
  pub tape : length task.tape ≤ max_tape_words

pub record IsUnrefused (bundle : Bundle) (harts : ℕ) (tasks : List CodedTask) : Type 0 where
  pub tasks_low : 1 ≤ length tasks
  pub tasks_high : length tasks ≤ max_tasks
  pub words_high : All HasFewWords tasks
  pub quanta_high : All (λ line. length line.plan.quanta ≤ max_quanta) bundle.plans
  pub worlds_high : length bundle.worlds ≤ max_worlds
  pub tapes_high : All (λ world. length world.tape ≤ max_tape_words) bundle.worlds
  pub events_high : event_count bundle.events ≤ max_events
  pub order_high : entry_count bundle.order ≤ max_order_entries
  pub harts_there : All (λ line. line.hart < harts) bundle.plans
  pub bound_high : bound_of bundle harts ≤ max_action_bound

below : (n m : ℕ) → nat_lt n m ≡ true → n < m
below n m h = grind (arith, tests)

is_below : (n m : ℕ) → n < m → nat_lt n m ≡ true
is_below n m h = grind (arith, tests)

within : (n m : ℕ) → nat_le n m ≡ true → n ≤ m
within n m h = grind (arith, tests)

is_within : (n m : ℕ) → n ≤ m → nat_le n m ≡ true
is_within n m h = grind (arith, tests)

is_inside : (low high got : ℕ) → low ≤ got → got ≤ high → (nat_le low got && nat_le got high) ≡ true
is_inside low high got h k = grind (arith, tests)

passed : (b : _) (fault : LoadFault) → b ≡ true → cond b None (Some fault) ≡ None
passed b fault h = ap (λ c. cond c None (Some fault)) h

keeps_limit : (what : What) (got : ℕ) → least what ≤ got → got ≤ most what → limit_refusal what got ≡ None
keeps_limit what got low high = passed _ (Limit what got) (is_inside (least what) (most what) got low high)

few_words : (task : CodedTask) → task_refusal task ≡ None → HasFewWords task
few_words task h =
    let each = all_none (limit_refusal Code (length task.code) ∷ limit_refusal Tape (length task.tape) ∷ []) h in
    record { code = (limit_kept Code (length task.code) each.0).1; tape = (limit_kept Tape (length task.tape) each.1.0).1 }

words_few : (task : CodedTask) → HasFewWords task → task_refusal task ≡ None
words_few task h =
    none_of (limit_refusal Code (length task.code) ∷ limit_refusal Tape (length task.tape) ∷ [])
    (keeps_limit Code (length task.code) (omega arith) h.code, (keeps_limit Tape (length task.tape) (omega arith) h.tape, tt))

abbrev limits : Bundle → List CodedTask → List (Option LoadFault)
limits bundle tasks =
    tasks_refusal tasks
    ∷ first_of (map task_refusal tasks)
    ∷ first_of (map quanta_refusal bundle.plans)
    ∷ worlds_refusal bundle.worlds
    ∷ first_of (map world_refusal bundle.worlds)
    ∷ events_refusal bundle.events
    ∷ order_refusal bundle.order
    ∷ []

abbrev all : Bundle → ℕ → List CodedTask → List (Option LoadFault)
all bundle harts tasks =
    limits_refusal bundle tasks ∷ first_of (map (hart_refusal harts) bundle.plans) ∷ bound_refusal (bound_of bundle harts) ∷ []

-- what holds of each item that isn't refused
each_kept : {X : Type 0} (refusal : X → Option LoadFault) (P : X → Type 0) (xs : List X) → ((x : X) → refusal x ≡ None → P x) → first_of (map refusal xs) ≡ None → All P xs
each_kept refusal P xs f h = All-weaker (λ x. refusal x ≡ None) P f xs (All-from_recursion _ xs (all_none-map refusal xs h))

keeps_each : {X : Type 0} (refusal : X → Option LoadFault) (P : X → Type 0) (xs : List X) → ((x : X) → P x → refusal x ≡ None) → All P xs → first_of (map refusal xs) ≡ None
keeps_each refusal P xs f h = none_of-map refusal xs (recursion_from_All _ xs (All-weaker P (λ x. refusal x ≡ None) f xs h))

pub unrefused : (bundle : Bundle) (harts : ℕ) (tasks : List CodedTask) → refusal_of bundle harts tasks ≡ None → IsUnrefused bundle harts tasks
unrefused bundle harts tasks h =
    let three = all_none (all bundle harts tasks) h in
    let each = all_none (limits bundle tasks) three.0 in
    let count = limit_kept Tasks (length tasks) each.0 in
    record {
      tasks_low = count.0;
      tasks_high = count.1;
      words_high = each_kept task_refusal HasFewWords tasks few_words each.1.0;
      quanta_high = each_kept quanta_refusal _ bundle.plans (λ line k. (limit_kept Quanta (length line.plan.quanta) k).1) each.1.1.0;
      worlds_high = (limit_kept Worlds (length bundle.worlds) each.1.1.1.0).1;
      tapes_high = each_kept world_refusal _ bundle.worlds (λ world k. (limit_kept Tape (length world.tape) k).1) each.1.1.1.1.0;
      events_high = (limit_kept Events (event_count bundle.events) each.1.1.1.1.1.0).1;
      order_high = (limit_kept Order (entry_count bundle.order) each.1.1.1.1.1.1.0).1;
      harts_there = each_kept (hart_refusal harts) _ bundle.plans (λ line k. below line.hart harts (guard_none _ _ k)) three.1.0;
      bound_high = within (bound_of bundle harts) max_action_bound (guard_none _ _ three.1.1.0);
    }

pub is_unrefused : (bundle : Bundle) (harts : ℕ) (tasks : List CodedTask) → IsUnrefused bundle harts tasks → refusal_of bundle harts tasks ≡ None
is_unrefused bundle harts tasks h =
    let limits_none = none_of (limits bundle tasks) (
      keeps_limit Tasks (length tasks) h.tasks_low h.tasks_high,
      (
        keeps_each task_refusal HasFewWords tasks words_few h.words_high,
        (
          keeps_each quanta_refusal _ bundle.plans (λ line k. keeps_limit Quanta (length line.plan.quanta) (omega arith) k) h.quanta_high,
          (
            keeps_limit Worlds (length bundle.worlds) (omega arith) h.worlds_high,
            (
              keeps_each world_refusal _ bundle.worlds (λ world k. keeps_limit Tape (length world.tape) (omega arith) k) h.tapes_high,
              (
                keeps_limit Events (event_count bundle.events) (omega arith) h.events_high,
                (keeps_limit Order (entry_count bundle.order) (omega arith) h.order_high, tt),
              ),
            ),
          ),
        ),
      ),
    ) in
    none_of (all bundle harts tasks) (
      limits_none,
      (
        keeps_each (hart_refusal harts) _ bundle.plans (λ line k. passed _ _ (is_below line.hart harts k)) h.harts_there,
        (passed _ _ (is_within (bound_of bundle harts) max_action_bound h.bound_high), tt),
      ),
    )
