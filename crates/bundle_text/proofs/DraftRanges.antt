-- What lines make of a draft that is in range is in range.
use Rattle.std.proofs.Common.{◌≡◌, ℕ, ◌+◌, ◌-◌, ◌<◌, ◌≤◌, ◌^◌, ◌⊎◌, inl, inr, Bool, true, false, ◌&&◌, ◌||◌, cond, eqb, ◌==◌, leb, List, [], ◌∷◌, ◌++◌, length, Option, Some, None, Result, Ok, Err, refl, sym, ap, ◌∙◌, arith, length-append}
use Rattle.std.specs.List.{AllByRecursion}
use Rattle.std.proofs.lemmas.Bool.{false≢true, or_parts, or_from, or_cases, and_parts, leb-true, eqb-true, eqb-false, ne_eqb}
use Rattle.bundle_text.specs.Pieces.{tokens, is_text, is_text_byte, lines}
use Rattle.bundle_text.specs.declared.pieces.TheConstants.{TAB, CARRIAGE_RETURN}
use Rattle.bundle_text.specs.Numbers.{word_of}
use Rattle.bundle_text.specs.Operands.{◌>>=◌, each, no_operands, one_number, task_operands, plan_operands, has_plan, is_as_long, world_operands}
use Rattle.bundle_text.specs.Runs.{event_operand, order_operand}
use Rattle.bundle_text.specs.Places.{word_named, place_after, may_end, is_in_code}
use Rattle.bundle_text.specs.Lines.{task_with, with_words, with_code_line, with_plan, with_task_ended, with_operands, is_comment, is_endcode, placed_line, line_of_word, line_of_tokens, line_of_code, with_line, no_lines, at_line, at_end, with_lines, bundle_of}
use Rattle.bundle_text.specs.Range.{IsWord, IsByte, IsShort, IsLineInRange, IsCodeInRange, IsTaskInRange, IsPlanInRange, ArePlansApart, IsWorldInRange, AreWorldsAsLong, IsEventRunInRange, IsOrderRunInRange, IsInRange}
use Rattle.bundle_text.specs.declared.draft.Draft.{Draft}
use Rattle.bundle_text.specs.declared.draft.Word.{Word}
use Rattle.bundle_text.specs.declared.draft.Word.TheVariants as word
use Rattle.bundle_text.specs.declared.draft.Place.{Place}
use Rattle.bundle_text.specs.declared.draft.Place.TheVariants as at
use Rattle.bundle_text.specs.declared.bundle.Bundle.{Bundle}
use Rattle.bundle_text.specs.declared.bundle.BundleKind.{BundleKind}
use Rattle.bundle_text.specs.declared.bundle.BundleKind.TheVariants as kind
use Rattle.bundle_text.specs.declared.bundle.TaskText.{TaskText}
use Rattle.bundle_text.specs.declared.bundle.PlanText.{PlanText}
use Rattle.core_model.specs.declared.world.World.{World}
use Rattle.bundle_text.specs.declared.bundle.Code.{Code}
use Rattle.bundle_text.specs.declared.bundle.Code.TheVariants.{Words, Text}
use Rattle.bundle_text.proofs.Steps.{same_ok, err_ok, then_ok, if_ok, else_ok, all_append, each_all}
use Rattle.bundle_text.proofs.NumberRanges.{word_range, event_range, order_range}
use Rattle.bundle_text.proofs.OperandRanges.{one_range, task_range, plan_range, world_range}
use Rattle.bundle_text.proofs.Sizes.{size, lines_size, lines_count, tokens_count}
use Rattle.bundle_text.proofs.PlaceFacts.{has_slots, has_task, needs_slots, needs_task, place_of, if_then, PlaceFits, place_fits, ends_with_slots, code_place}

-- ---- lists

-- Each item passes, and there are no more than so many.
record IsListFit {A : Type 0} (P : A → Type 0) (room : ℕ) (xs : List A) : Type 0 where
  each : AllByRecursion P xs
  few : length xs ≤ room

list_none : {A : Type 0} (P : A → Type 0) (room : ℕ) → IsListFit P room []
list_none P room = record { each = tt; few = omega arith }

list_grow : {A : Type 0} (P : A → Type 0) (room more : ℕ) (xs : List A) → room ≤ more → IsListFit P room xs → IsListFit P more xs
list_grow P room more xs le h = let few = h.few in record { each = h.each; few = omega arith }

list_append : {A : Type 0} (P : A → Type 0) (room n : ℕ) (xs ys : List A) → IsListFit P room xs → AllByRecursion P ys → length ys ≤ n + 1
    → IsListFit P (room + n + 1) (xs ++ ys)
list_append {A} P room n xs ys h all le =
    let few = h.few in record { each = all_append P xs ys h.each all; few = omega (arith, length-append xs ys) }

list_push : {A : Type 0} (P : A → Type 0) (room n : ℕ) (xs : List A) (x : A) → IsListFit P room xs → P x → IsListFit P (room + n + 1) (xs ++ x ∷ [])
list_push P room n xs x h p = list_append P room n xs (x ∷ []) h (p, tt) (omega arith)

-- a list that fits is short, where there is no more room than that
list_short : {A : Type 0} (P : A → Type 0) (room : ℕ) (xs : List A) → room < 2 ^ 32 → IsListFit P room xs → IsShort xs
list_short P room xs le h = let few = h.few in omega arith

-- ---- tasks, bundles and drafts

abbrev IsCodeFit : ℕ → ℕ → Code → Type 0
IsCodeFit number room (Words words) = IsListFit IsWord room words
IsCodeFit number room (Text first_line ls) = (first_line + length ls ≤ number) × AllByRecursion IsLineInRange ls

record IsTaskFit (number room : ℕ) (task : TaskText) : Type 0 where
  out_max : task.out_max ≤ 4096
  data_len : task.data_len ≤ 1024
  band : task.band ≤ 1
  tape : IsListFit IsWord room task.tape
  code : IsCodeFit number room task.code

record IsBundleFit (room : ℕ) (bundle : Bundle) : Type 0 where
  plans : IsListFit IsPlanInRange room bundle.plans
  apart : ArePlansApart bundle.plans
  tasks : IsListFit IsTaskInRange room bundle.tasks
  worlds : IsListFit IsWorldInRange room bundle.worlds
  as_long : AreWorldsAsLong bundle.worlds
  events : IsListFit IsEventRunInRange room bundle.events
  order : IsListFit IsOrderRunInRange room bundle.order

-- Before the line of this number, after so many bytes and lines.
pub record IsDraftFit (number room : ℕ) (d : Draft) : Type 0 where
  slots : has_slots d.place ≡ true → (1 ≤ d.bundle.slots) × (d.bundle.slots ≤ 8)
  fuel : has_task d.place ≡ true → (1 ≤ d.task.fuel) × (d.task.fuel ≤ 100000)
  task : IsTaskFit number room d.task
  bundle : IsBundleFit room d.bundle

code_grow : (number room more : ℕ) (code : Code) → room ≤ more → IsCodeFit number room code → IsCodeFit (number + 1) more code
code_grow number room more (Words words) le h = list_grow IsWord room more words le h
code_grow number room more (Text first_line ls) le h = (let high = h.0 in omega arith, h.1)

task_grow : (number room more : ℕ) (task : TaskText) → room ≤ more → IsTaskFit number room task → IsTaskFit (number + 1) more task
task_grow number room more task le h = record {
  out_max = h.out_max;
  data_len = h.data_len;
  band = h.band;
  tape = list_grow IsWord room more task.tape le h.tape;
  code = code_grow number room more task.code le h.code;
}

bundle_grow : (room more : ℕ) (bundle : Bundle) → room ≤ more → IsBundleFit room bundle → IsBundleFit more bundle
bundle_grow room more bundle le h = record {
  plans = list_grow IsPlanInRange room more bundle.plans le h.plans;
  apart = h.apart;
  tasks = list_grow IsTaskInRange room more bundle.tasks le h.tasks;
  worlds = list_grow IsWorldInRange room more bundle.worlds le h.worlds;
  as_long = h.as_long;
  events = list_grow IsEventRunInRange room more bundle.events le h.events;
  order = list_grow IsOrderRunInRange room more bundle.order le h.order;
}

-- ---- plans apart, and worlds as long

plan_behind : (hart : ℕ) (plans : List PlanText) (plan : PlanText) → has_plan hart plans ≡ false → eqb plan.hart hart ≡ false
    → has_plan hart (plans ++ plan ∷ []) ≡ false
plan_behind hart [] plan e f = or_from (eqb plan.hart hart) false f refl
plan_behind hart (p ∷ plans) plan e f =
    let q = or_parts (eqb p.hart hart) (has_plan hart plans) e in
    or_from (eqb p.hart hart) (has_plan hart (plans ++ plan ∷ [])) q.0 (plan_behind hart plans plan q.1 f)

other_hart : (a b : ℕ) → eqb a b ≡ false → eqb b a ≡ false
other_hart a b e = ne_eqb b a (λ same. eqb-false a b e (sym same))

pub plans_apart : (plans : List PlanText) (plan : PlanText) → ArePlansApart plans → has_plan plan.hart plans ≡ false → ArePlansApart (plans ++ plan ∷ [])
plans_apart [] plan apart e = (refl, tt)
plans_apart (p ∷ plans) plan apart e =
    let q = or_parts (eqb p.hart plan.hart) (has_plan plan.hart plans) e in
    (plan_behind p.hart plans plan apart.0 (other_hart p.hart plan.hart q.0), plans_apart plans plan apart.1 q.1)

pub worlds_as_long : (worlds : List World) (world : World) → AreWorldsAsLong worlds → is_as_long worlds (length world.tape) ≡ true
    → AreWorldsAsLong (worlds ++ world ∷ [])
worlds_as_long [] world as_long e = tt
worlds_as_long (first ∷ worlds) world as_long e =
    all_append (λ w. length w.tape ≡ length first.tape) worlds (world ∷ []) as_long (sym (eqb-true (length first.tape) (length world.tape) e), tt)

-- ---- what the line of a word adds

-- The line of a word adds to a draft that fits.
record Adds (number room n : ℕ) (d : Draft) (ts : List (List ℕ)) : Type 0 where
  few : length ts ≤ n
  room_small : room + n + 1 < 2 ^ 32
  fits : IsDraftFit number room d

abbrev Fits : ℕ → ℕ → ℕ → Draft → Type 0
Fits number room n new = IsDraftFit (number + 1) (room + n + 1) new

words_of_range : (number room n : ℕ) (d : Draft) (ts : List (List ℕ)) (words : List ℕ) → Adds number room n d ts → each word_of ts ≡ Ok words
    → AllByRecursion IsWord words × (length words ≤ n + 1)
words_of_range number room n d ts words a h =
    let p = each_all IsWord word_of word_range ts words h in
    let few = a.few in
    let count = p.1 in
    (p.0, omega arith)

-- a bundle's line that says nothing more
bundle_adds : (number room n : ℕ) (d : Draft) (ts : List (List ℕ)) (new : Draft) → Adds number room n d ts
    → with_operands word.Bundle number (record d { place = at.Header }) ts ≡ Ok new → Fits number room n new
bundle_adds number room n d ts new a h =
    let p = then_ok (one_number 1 2 ts) (λ version. Ok (record d { place = at.Header; has_bands = version == 2 })) new h in
    let found : Draft = record d { place = at.Header; has_bands = p.0 == 2 } in
    let same : found ≡ new = same_ok found new p.2 in
    rw (← same) (record {
      slots = λ e. absurd (false≢true e);
      fuel = λ e. absurd (false≢true e);
      task = task_grow number room (room + n + 1) d.task (omega arith) a.fits.task;
      bundle = bundle_grow room (room + n + 1) d.bundle (omega arith) a.fits.bundle;
    })

slots_adds : (number room n : ℕ) (d : Draft) (ts : List (List ℕ)) (new : Draft) → Adds number room n d ts
    → with_operands word.Slots number (record d { place = at.Plans }) ts ≡ Ok new → Fits number room n new
slots_adds number room n d ts new a h =
    let p = then_ok (one_number 1 8 ts) (λ slots. Ok (record d { place = at.Plans; bundle = record d.bundle { slots = slots } })) new h in
    let found : Draft = record d { place = at.Plans; bundle = record d.bundle { slots = p.0 } } in
    let same : found ≡ new = same_ok found new p.2 in
    let grown = bundle_grow room (room + n + 1) d.bundle (omega arith) a.fits.bundle in
    rw (← same) (record {
      slots = λ e. one_range 1 8 ts p.0 p.1;
      fuel = λ e. absurd (false≢true e);
      task = task_grow number room (room + n + 1) d.task (omega arith) a.fits.task;
      bundle = record {
        plans = grown.plans;
        apart = grown.apart;
        tasks = grown.tasks;
        worlds = grown.worlds;
        as_long = grown.as_long;
        events = grown.events;
        order = grown.order;
      };
    })

plan_adds : (number room n : ℕ) (d : Draft) (ts : List (List ℕ)) (new : Draft) → Adds number room n d ts → has_slots d.place ≡ true
    → with_operands word.Plan number (record d { place = at.Plans }) ts ≡ Ok new → Fits number room n new
plan_adds number room n d ts new a read h =
    let p = then_ok (plan_operands ts) (λ plan. with_plan d.bundle.plans plan >>= λ plans.
    Ok (record d { place = at.Plans; bundle = record d.bundle { plans = plans } })) new h in
    let q = then_ok (with_plan d.bundle.plans p.0) (λ plans. Ok (record d { place = at.Plans; bundle = record d.bundle { plans = plans } })) new p.2 in
    let r = else_ok (has_plan p.0.hart d.bundle.plans) (Ok (d.bundle.plans ++ p.0 ∷ [])) kind.Repeated q.0 q.1 in
    let plans_are : d.bundle.plans ++ p.0 ∷ [] ≡ q.0 = same_ok (d.bundle.plans ++ p.0 ∷ []) q.0 r.1 in
    let found : Draft = record d { place = at.Plans; bundle = record d.bundle { plans = d.bundle.plans ++ p.0 ∷ [] } } in
    let same : found ≡ new =
    ap (λ ps. record d { place = at.Plans; bundle = record d.bundle { plans = ps } }) plans_are
    ∙ same_ok (record d { place = at.Plans; bundle = record d.bundle { plans = q.0 } }) new q.2 in
    let few = a.few in
    let small = a.room_small in
    let short : IsShort ts = omega arith in
    let grown = bundle_grow room (room + n + 1) d.bundle (omega arith) a.fits.bundle in
    rw (← same) (record {
      slots = λ e. a.fits.slots read;
      fuel = λ e. absurd (false≢true e);
      task = task_grow number room (room + n + 1) d.task (omega arith) a.fits.task;
      bundle = record {
        plans = list_push IsPlanInRange room n d.bundle.plans p.0 a.fits.bundle.plans (plan_range ts p.0 short p.1);
        apart = plans_apart d.bundle.plans p.0 a.fits.bundle.apart r.0;
        tasks = grown.tasks;
        worlds = grown.worlds;
        as_long = grown.as_long;
        events = grown.events;
        order = grown.order;
      };
    })

task_adds : (number room n : ℕ) (d : Draft) (ts : List (List ℕ)) (new : Draft) → Adds number room n d ts → has_slots d.place ≡ true
    → with_operands word.Task number (record d { place = at.Tape }) ts ≡ Ok new → Fits number room n new
task_adds number room n d ts new a read h =
    let p = then_ok (task_operands d.has_bands ts) (λ limits. Ok (record d { place = at.Tape; task = task_with limits.0 limits.1 limits.2 limits.3 })) new h in
    let found : Draft = record d { place = at.Tape; task = task_with p.0.0 p.0.1 p.0.2 p.0.3 } in
    let same : found ≡ new = same_ok found new p.2 in
    let limits = task_range d.has_bands ts p.0 p.1 in
    rw (← same) (record {
      slots = λ e. a.fits.slots read;
      fuel = λ e. (limits.fuel_low, limits.fuel_high);
      task = record {
        out_max = limits.out_max;
        data_len = limits.data_len;
        band = limits.band;
        tape = list_none IsWord (room + n + 1);
        code = list_none IsWord (room + n + 1);
      };
      bundle = bundle_grow room (room + n + 1) d.bundle (omega arith) a.fits.bundle;
    })

tape_adds : (number room n : ℕ) (d : Draft) (ts : List (List ℕ)) (new : Draft) → Adds number room n d ts → has_slots d.place ≡ true
    → has_task d.place ≡ true → with_operands word.Tape number (record d { place = at.Tape }) ts ≡ Ok new → Fits number room n new
tape_adds number room n d ts new a read open_task h =
    let p = then_ok (each word_of ts) (λ words. Ok (record d { place = at.Tape; task = record d.task { tape = d.task.tape ++ words } })) new h in
    let found : Draft = record d { place = at.Tape; task = record d.task { tape = d.task.tape ++ p.0 } } in
    let same : found ≡ new = same_ok found new p.2 in
    let more = words_of_range number room n d ts p.0 a p.1 in
    let grown = task_grow number room (room + n + 1) d.task (omega arith) a.fits.task in
    rw (← same) (record {
      slots = λ e. a.fits.slots read;
      fuel = λ e. a.fits.fuel open_task;
      task = record {
        out_max = grown.out_max;
        data_len = grown.data_len;
        band = grown.band;
        tape = list_append IsWord room n d.task.tape p.0 a.fits.task.tape more.0 more.1;
        code = grown.code;
      };
      bundle = bundle_grow room (room + n + 1) d.bundle (omega arith) a.fits.bundle;
    })

more_words : (number room n : ℕ) (code : Code) (words : List ℕ) → IsCodeFit number room code → AllByRecursion IsWord words → length words ≤ n + 1
    → IsCodeFit (number + 1) (room + n + 1) (with_words code words)
more_words number room n (Words had) words h all le = list_append IsWord room n had words h all le
more_words number room n (Text first_line ls) words h all le = code_grow number room (room + n + 1) (Text first_line ls) (omega arith) h

words_adds : (number room n : ℕ) (d : Draft) (ts : List (List ℕ)) (new : Draft) → Adds number room n d ts → has_slots d.place ≡ true
    → has_task d.place ≡ true → with_operands word.Words number (record d { place = at.Words }) ts ≡ Ok new → Fits number room n new
words_adds number room n d ts new a read open_task h =
    let p = then_ok (each word_of ts) (λ words. Ok (record d { place = at.Words; task = record d.task { code = with_words d.task.code words } })) new h in
    let found : Draft = record d { place = at.Words; task = record d.task { code = with_words d.task.code p.0 } } in
    let same : found ≡ new = same_ok found new p.2 in
    let more = words_of_range number room n d ts p.0 a p.1 in
    let grown = task_grow number room (room + n + 1) d.task (omega arith) a.fits.task in
    rw (← same) (record {
      slots = λ e. a.fits.slots read;
      fuel = λ e. a.fits.fuel open_task;
      task = record {
        out_max = grown.out_max;
        data_len = grown.data_len;
        band = grown.band;
        tape = grown.tape;
        code = more_words number room n d.task.code p.0 a.fits.task.code more.0 more.1;
      };
      bundle = bundle_grow room (room + n + 1) d.bundle (omega arith) a.fits.bundle;
    })

code_adds : (number room n : ℕ) (d : Draft) (ts : List (List ℕ)) (new : Draft) → Adds number room n d ts → has_slots d.place ≡ true
    → has_task d.place ≡ true → with_operands word.Code number (record d { place = at.Code }) ts ≡ Ok new → Fits number room n new
code_adds number room n d ts new a read open_task h =
    let found : Draft = record d { place = at.Code; task = record d.task { code = Text (number + 1) [] } } in
    let p = if_ok (no_operands ts) (Ok found) kind.Operands new h in
    let same : found ≡ new = same_ok found new p.1 in
    let grown = task_grow number room (room + n + 1) d.task (omega arith) a.fits.task in
    rw (← same) (record {
      slots = λ e. a.fits.slots read;
      fuel = λ e. a.fits.fuel open_task;
      task = record { out_max = grown.out_max; data_len = grown.data_len; band = grown.band; tape = grown.tape; code = (omega arith, tt) };
      bundle = bundle_grow room (room + n + 1) d.bundle (omega arith) a.fits.bundle;
    })

code_in_range : (number room : ℕ) (code : Code) → number < 2 ^ 32 → room < 2 ^ 32 → IsCodeFit number room code → IsCodeInRange code
code_in_range number room (Words words) low small h = (h.each, list_short IsWord room words small h)
code_in_range number room (Text first_line ls) low small h = (let high = h.0 in omega arith, h.1)

task_in_range : (number room : ℕ) (task : TaskText) → number < 2 ^ 32 → room < 2 ^ 32 → IsTaskFit number room task
    → (1 ≤ task.fuel) × (task.fuel ≤ 100000) → IsTaskInRange task
task_in_range number room task low small h fuel = record {
  fuel_low = fuel.0;
  fuel_high = fuel.1;
  out_max = h.out_max;
  data_len = h.data_len;
  band = h.band;
  tape = h.tape.each;
  tape_short = list_short IsWord room task.tape small h.tape;
  code = code_in_range number room task.code low small h.code;
}

end_adds : (number room n : ℕ) (d : Draft) (ts : List (List ℕ)) (new : Draft) → number < 2 ^ 32 → Adds number room n d ts → has_slots d.place ≡ true
    → has_task d.place ≡ true → with_operands word.EndTask number (record d { place = at.Tasks }) ts ≡ Ok new → Fits number room n new
end_adds number room n d ts new low a read open_task h =
    let found : Draft = with_task_ended (record d { place = at.Tasks }) in
    let p = if_ok (no_operands ts) (Ok found) kind.Operands new h in
    let same : found ≡ new = same_ok found new p.1 in
    let small = a.room_small in
    let grown = bundle_grow room (room + n + 1) d.bundle (omega arith) a.fits.bundle in
    rw (← same) (record {
      slots = λ e. a.fits.slots read;
      fuel = λ e. absurd (false≢true e);
      task = record { out_max = omega arith; data_len = omega arith; band = omega arith; tape = list_none IsWord (room + n + 1); code = list_none IsWord (room + n + 1) };
      bundle = record {
        plans = grown.plans;
        apart = grown.apart;
        tasks =
            list_push IsTaskInRange room n d.bundle.tasks d.task a.fits.bundle.tasks
            (task_in_range number room d.task low (omega arith) a.fits.task (a.fits.fuel open_task));
        worlds = grown.worlds;
        as_long = grown.as_long;
        events = grown.events;
        order = grown.order;
      };
    })

world_adds : (number room n : ℕ) (d : Draft) (ts : List (List ℕ)) (new : Draft) → Adds number room n d ts → has_slots d.place ≡ true
    → with_operands word.World number (record d { place = at.Worlds }) ts ≡ Ok new → Fits number room n new
world_adds number room n d ts new a read h =
    let p = then_ok (world_operands d.bundle.worlds ts) (λ world.
    Ok (record d { place = at.Worlds; bundle = record d.bundle { worlds = d.bundle.worlds ++ world ∷ [] } })) new h in
    let found : Draft = record d { place = at.Worlds; bundle = record d.bundle { worlds = d.bundle.worlds ++ p.0 ∷ [] } } in
    let same : found ≡ new = same_ok found new p.2 in
    let few = a.few in
    let small = a.room_small in
    let short : IsShort ts = omega arith in
    let world = world_range d.bundle.worlds ts p.0 short p.1 in
    let grown = bundle_grow room (room + n + 1) d.bundle (omega arith) a.fits.bundle in
    rw (← same) (record {
      slots = λ e. a.fits.slots read;
      fuel = λ e. absurd (false≢true e);
      task = task_grow number room (room + n + 1) d.task (omega arith) a.fits.task;
      bundle = record {
        plans = grown.plans;
        apart = grown.apart;
        tasks = grown.tasks;
        worlds = list_push IsWorldInRange room n d.bundle.worlds p.0 a.fits.bundle.worlds world.range;
        as_long = worlds_as_long d.bundle.worlds p.0 a.fits.bundle.as_long world.as_long;
        events = grown.events;
        order = grown.order;
      };
    })

events_adds : (number room n : ℕ) (d : Draft) (ts : List (List ℕ)) (new : Draft) → Adds number room n d ts → has_slots d.place ≡ true
    → with_operands word.Events number (record d { place = at.Events }) ts ≡ Ok new → Fits number room n new
events_adds number room n d ts new a read h =
    let p = then_ok (each event_operand ts) (λ runs. Ok (record d { place = at.Events; bundle = record d.bundle { events = d.bundle.events ++ runs } })) new h in
    let found : Draft = record d { place = at.Events; bundle = record d.bundle { events = d.bundle.events ++ p.0 } } in
    let same : found ≡ new = same_ok found new p.2 in
    let runs = each_all IsEventRunInRange event_operand event_range ts p.0 p.1 in
    let count = runs.1 in
    let few = a.few in
    let grown = bundle_grow room (room + n + 1) d.bundle (omega arith) a.fits.bundle in
    rw (← same) (record {
      slots = λ e. a.fits.slots read;
      fuel = λ e. absurd (false≢true e);
      task = task_grow number room (room + n + 1) d.task (omega arith) a.fits.task;
      bundle = record {
        plans = grown.plans;
        apart = grown.apart;
        tasks = grown.tasks;
        worlds = grown.worlds;
        as_long = grown.as_long;
        events = list_append IsEventRunInRange room n d.bundle.events p.0 a.fits.bundle.events runs.0 (omega arith);
        order = grown.order;
      };
    })

order_adds : (number room n : ℕ) (d : Draft) (ts : List (List ℕ)) (new : Draft) → Adds number room n d ts → has_slots d.place ≡ true
    → with_operands word.Order number (record d { place = at.Order }) ts ≡ Ok new → Fits number room n new
order_adds number room n d ts new a read h =
    let p = then_ok (each order_operand ts) (λ runs. Ok (record d { place = at.Order; bundle = record d.bundle { order = d.bundle.order ++ runs } })) new h in
    let found : Draft = record d { place = at.Order; bundle = record d.bundle { order = d.bundle.order ++ p.0 } } in
    let same : found ≡ new = same_ok found new p.2 in
    let runs = each_all IsOrderRunInRange order_operand order_range ts p.0 p.1 in
    let count = runs.1 in
    let few = a.few in
    let grown = bundle_grow room (room + n + 1) d.bundle (omega arith) a.fits.bundle in
    rw (← same) (record {
      slots = λ e. a.fits.slots read;
      fuel = λ e. absurd (false≢true e);
      task = task_grow number room (room + n + 1) d.task (omega arith) a.fits.task;
      bundle = record {
        plans = grown.plans;
        apart = grown.apart;
        tasks = grown.tasks;
        worlds = grown.worlds;
        as_long = grown.as_long;
        events = grown.events;
        order = list_append IsOrderRunInRange room n d.bundle.order p.0 a.fits.bundle.order runs.0 (omega arith);
      };
    })

word_adds : (w : Word) (number room n : ℕ) (d : Draft) (ts : List (List ℕ)) (new : Draft) → number < 2 ^ 32 → Adds number room n d ts
    → if_then (needs_slots w) (has_slots d.place) ≡ true → if_then (needs_task w) (has_task d.place) ≡ true
    → with_operands w number (record d { place = place_of w }) ts ≡ Ok new → Fits number room n new
word_adds word.Bundle number room n d ts new low a read open_task h = bundle_adds number room n d ts new a h
word_adds word.Slots number room n d ts new low a read open_task h = slots_adds number room n d ts new a h
word_adds word.Plan number room n d ts new low a read open_task h = plan_adds number room n d ts new a read h
word_adds word.Task number room n d ts new low a read open_task h = task_adds number room n d ts new a read h
word_adds word.Tape number room n d ts new low a read open_task h = tape_adds number room n d ts new a read open_task h
word_adds word.Words number room n d ts new low a read open_task h = words_adds number room n d ts new a read open_task h
word_adds word.Code number room n d ts new low a read open_task h = code_adds number room n d ts new a read open_task h
word_adds word.EndCode number room n d ts new low a read open_task h = absurd (err_ok new kind.Misplaced h)
word_adds word.EndTask number room n d ts new low a read open_task h = end_adds number room n d ts new low a read open_task h
word_adds word.World number room n d ts new low a read open_task h = world_adds number room n d ts new a read h
word_adds word.Events number room n d ts new low a read open_task h = events_adds number room n d ts new a read h
word_adds word.Order number room n d ts new low a read open_task h = order_adds number room n d ts new a read h

-- ---- a line

placed_adds : (w : Word) (o : Option Place) (number room n : ℕ) (d : Draft) (ts : List (List ℕ)) (new : Draft) → number < 2 ^ 32
    → Adds number room n d ts → PlaceFits d.place w o → placed_line w o number d ts ≡ Ok new → Fits number room n new
placed_adds w None number room n d ts new low a fits h = absurd (err_ok new kind.Misplaced h)
placed_adds w (Some place) number room n d ts new low a fits h =
    word_adds w number room n d ts new low a fits.1 fits.2 (rw fits.0 at h)

named_adds : (o : Option Word) (number room n : ℕ) (d : Draft) (ts : List (List ℕ)) (new : Draft) → number < 2 ^ 32
    → Adds number room n d ts → line_of_word o number d ts ≡ Ok new → Fits number room n new
named_adds None number room n d ts new low a h = absurd (err_ok new kind.UnknownWord h)
named_adds (Some w) number room n d ts new low a h =
    placed_adds w (place_after d.place w) number room n d ts new low a (place_fits d.place w) h

draft_grow : (number room more : ℕ) (d : Draft) → room ≤ more → IsDraftFit number room d → IsDraftFit (number + 1) more d
draft_grow number room more d le h = record {
  slots = h.slots;
  fuel = h.fuel;
  task = task_grow number room more d.task le h.task;
  bundle = bundle_grow room more d.bundle le h.bundle;
}

comment_adds : (t : Bool) (first : List ℕ) (number room n : ℕ) (d : Draft) (ts : List (List ℕ)) (new : Draft) → number < 2 ^ 32
    → Adds number room n d ts → cond t (Ok d) (line_of_word (word_named first) number d ts) ≡ Ok new → Fits number room n new
comment_adds true first number room n d ts new low a h =
    let same : d ≡ new = same_ok d new h in rw (← same) (draft_grow number room (room + n + 1) d (omega arith) a.fits)
comment_adds false first number room n d ts new low a h = named_adds (word_named first) number room n d ts new low a h

tokens_adds : (number room n : ℕ) (d : Draft) (ts : List (List ℕ)) (new : Draft) → number < 2 ^ 32 → Adds number room n d ts
    → line_of_tokens number d ts ≡ Ok new → Fits number room n new
tokens_adds number room n d [] new low a h =
    let same : d ≡ new = same_ok d new h in rw (← same) (draft_grow number room (room + n + 1) d (omega arith) a.fits)
tokens_adds number room n d (first ∷ ts) new low a h =
    let few = a.few in
    let others : Adds number room n d ts = record { few = omega arith; room_small = a.room_small; fits = a.fits } in
    comment_adds (is_comment first) first number room n d ts new low others h

-- ---- a line of code

printable_or : (b : ℕ) → ((leb 0x20 b && leb b 0x7e) ≡ true) ⊎ (eqb b TAB ≡ true) → IsByte b
printable_or b (inl e) = let p = and_parts (leb 0x20 b) (leb b 0x7e) e in let high = leb-true b 0x7e p.1 in omega arith
printable_or b (inr e) = let tab = eqb-true b TAB e in omega arith

text_or : (b : ℕ) → (((leb 0x20 b && leb b 0x7e) || eqb b TAB) ≡ true) ⊎ (eqb b CARRIAGE_RETURN ≡ true) → IsByte b
text_or b (inl e) = printable_or b (or_cases (leb 0x20 b && leb b 0x7e) (eqb b TAB) e)
text_or b (inr e) = let cr = eqb-true b CARRIAGE_RETURN e in omega arith

text_byte : (b : ℕ) → is_text_byte b ≡ true → IsByte b
text_byte b e = text_or b (or_cases ((leb 0x20 b && leb b 0x7e) || eqb b TAB) (eqb b CARRIAGE_RETURN) e)

text_bytes : (line : List ℕ) → is_text line ≡ true → AllByRecursion IsByte line
text_bytes [] e = tt
text_bytes (b ∷ bs) e = let p = and_parts (is_text_byte b) (is_text bs) e in (text_byte b p.0, text_bytes bs p.1)

code_line_more : (number room n : ℕ) (code : Code) (line : List ℕ) → IsCodeFit number room code → IsLineInRange line
    → IsCodeFit (number + 1) (room + n + 1) (with_code_line code line)
code_line_more number room n (Words words) line h fits = list_grow IsWord room (room + n + 1) words (omega arith) h
code_line_more number room n (Text first_line ls) line h fits =
    let high = h.0 in
    (omega (arith, length-append ls (line ∷ [])), all_append IsLineInRange ls (line ∷ []) h.1 (fits, tt))

code_adds_line : (ends : Bool) (number room : ℕ) (d : Draft) (line : List ℕ) → (has_slots d.place ≡ true) × (has_task d.place ≡ true)
    → IsLineInRange line → IsDraftFit number room d
    → Fits number room (length line)
    (cond ends (record d { place = at.CodeEnd }) (record d { task = record d.task { code = with_code_line d.task.code line } }))
code_adds_line true number room d line open_task fits h = record {
  slots = λ e. h.slots open_task.0;
  fuel = λ e. h.fuel open_task.1;
  task = task_grow number room (room + length line + 1) d.task (omega arith) h.task;
  bundle = bundle_grow room (room + length line + 1) d.bundle (omega arith) h.bundle;
}
code_adds_line false number room d line open_task fits h =
    let grown = task_grow number room (room + length line + 1) d.task (omega arith) h.task in record {
      slots = h.slots;
      fuel = h.fuel;
      task = record {
        out_max = grown.out_max;
        data_len = grown.data_len;
        band = grown.band;
        tape = grown.tape;
        code = code_line_more number room (length line) d.task.code line h.task.code fits;
      };
      bundle = bundle_grow room (room + length line + 1) d.bundle (omega arith) h.bundle;
    }

-- ---- lines

either_adds : (in_code : Bool) (number room : ℕ) (d : Draft) (line : List ℕ) (new : Draft) → is_in_code d.place ≡ in_code → number < 2 ^ 32
    → room + length line + 1 < 2 ^ 32 → is_text line ≡ true → IsDraftFit number room d
    → cond in_code (Ok (line_of_code d line)) (line_of_tokens number d (tokens line)) ≡ Ok new → Fits number room (length line) new
either_adds true number room d line new e low small text fits h =
    let same : line_of_code d line ≡ new = same_ok (line_of_code d line) new h in
    let range : IsLineInRange line = record { bytes = text_bytes line text; short = omega arith } in
    rw (← same) (code_adds_line (is_endcode (tokens line)) number room d line (code_place d.place e) range fits)
either_adds false number room d line new e low small text fits h =
    let adds : Adds number room (length line) d (tokens line) = record { few = tokens_count line; room_small = small; fits = fits } in
    tokens_adds number room (length line) d (tokens line) new low adds h

line_adds : (number room : ℕ) (d : Draft) (line : List ℕ) (new : Draft) → number < 2 ^ 32 → room + length line + 1 < 2 ^ 32 → IsDraftFit number room d
    → with_line number d line ≡ Ok new → Fits number room (length line) new
unfolding with_line
line_adds number room d line new low small fits h =
    let p = if_ok (is_text line) (cond (is_in_code d.place) (Ok (line_of_code d line)) (line_of_tokens number d (tokens line))) kind.NotText new h in
    either_adds (is_in_code d.place) number room d line new refl low small p.0 fits p.1

-- a line of a text that is read
line_ok : (number : ℕ) (r : Result Draft BundleKind) (new : Draft) → at_line number r ≡ Ok new → r ≡ Ok new
line_ok number (Ok d) new h = ap (λ x. Ok x) (same_ok d new h)
line_ok number (Err k) new h = absurd (err_ok new (record { line = number; kind = k }) h)

ended_range : (number room : ℕ) (d : Draft) (b : Bundle) → room < 2 ^ 32 → IsDraftFit number room d → at_end number d ≡ Ok b → IsInRange b
ended_range number room d b small fits h =
    let p = if_ok (may_end d.place) (Ok d.bundle) (record { line = number; kind = kind.Missing }) b h in
    let same : d.bundle ≡ b = same_ok d.bundle b p.1 in
    let slots = fits.slots (ends_with_slots d.place p.0) in
    let is = fits.bundle in
    rw (← same) (record {
      slots_low = slots.0;
      slots_high = slots.1;
      plans = is.plans.each;
      plans_short = list_short IsPlanInRange room d.bundle.plans small is.plans;
      plans_apart = is.apart;
      tasks = is.tasks.each;
      tasks_short = list_short IsTaskInRange room d.bundle.tasks small is.tasks;
      worlds = is.worlds.each;
      worlds_short = list_short IsWorldInRange room d.bundle.worlds small is.worlds;
      worlds_as_long = is.as_long;
      events = is.events.each;
      events_short = list_short IsEventRunInRange room d.bundle.events small is.events;
      order = is.order.each;
      order_short = list_short IsOrderRunInRange room d.bundle.order small is.order;
    })

lines_range : (ls : List (List ℕ)) (number room : ℕ) (d : Draft) (b : Bundle) → number + length ls < 2 ^ 32 → room + size ls < 2 ^ 32
    → IsDraftFit number room d → with_lines number d ls ≡ Ok b → IsInRange b
lines_range [] number room d b low small fits h = ended_range number room d b (omega arith) fits h
lines_range (line ∷ others) number room d b low small fits h =
    let p = then_ok (at_line number (with_line number d line)) (λ next. with_lines (number + 1) next others) b h in
    let more =
    line_adds number room d line p.0 (omega arith) (omega arith) fits (line_ok number (with_line number d line) p.0 p.1) in
    lines_range others (number + 1) (room + length line + 1) p.0 b (omega arith) (omega arith) more p.2

nothing_fits : IsDraftFit 1 0 no_lines
nothing_fits = record {
  slots = λ e. absurd (false≢true e);
  fuel = λ e. absurd (false≢true e);
  task = record { out_max = omega arith; data_len = omega arith; band = omega arith; tape = list_none IsWord 0; code = list_none IsWord 0 };
  bundle = record {
    plans = list_none IsPlanInRange 0;
    apart = tt;
    tasks = list_none IsTaskInRange 0;
    worlds = list_none IsWorldInRange 0;
    as_long = tt;
    events = list_none IsEventRunInRange 0;
    order = list_none IsOrderRunInRange 0;
  };
}

-- the bundle of a text is in range
pub bundle_range : (bytes : List ℕ) (b : Bundle) → length bytes < 2 ^ 32 - 1 → bundle_of bytes ≡ Ok b → IsInRange b
bundle_range bytes b short h =
    let lines_few = lines_count bytes in
    let bytes_few = lines_size bytes in
    lines_range (lines bytes) 1 0 no_lines b (omega arith) (omega arith) nothing_fits h
