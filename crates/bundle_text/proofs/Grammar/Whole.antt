-- The sections of a bundle are decided as the bundle.
use Rattle.std.proofs.Common.{◌≡◌, ℕ, ◌+◌, ◌==◌, Bool, true, false, eqb, List, [], ◌∷◌, ◌++◌, length, codes, Some, Ok, Err, refl, sym, ap, ◌∙◌, subst, append-nil, append_assoc}
use Rattle.std.specs.List.{AllByRecursion}
use Rattle.std.proofs.lemmas.Bool.{cond-true, cond-false, or_from, or_parts, eq-eqb}
use Rattle.std.proofs.lemmas.List.Folds.{list_any-append}
use Rattle.core_model.specs.declared.event.EventRun.{EventRun}
use Rattle.core_model.specs.declared.event.OrderRun.{OrderRun}
use Rattle.core_model.specs.declared.world.World.{World}
use Rattle.bundle_text.specs.Pieces.{tokens}
use Rattle.bundle_text.specs.Operands.{◌>>=◌, has_plan, is_as_long, world_operands}
use Rattle.bundle_text.specs.Places.{place_after, may_end, is_in_code}
use Rattle.bundle_text.specs.Lines.{task_with, with_plan, is_endcode, with_line, no_lines, with_lines}
use Rattle.bundle_text.specs.Range.{ArePlansApart, AreWorldsAsLong}
use Rattle.bundle_text.specs.Form.{IsHexWord}
use Rattle.bundle_text.specs.Grammar.{IsOrderRun, IsEventRun, IsPlan, IsWorld, SaysOne, SaysEach, AreSaid, IsCode, IsTaskBlock, AreTaskBlocks, IsHead, IsBundle}
use Rattle.bundle_text.specs.declared.bundle.Bundle.{Bundle}
use Rattle.bundle_text.specs.declared.bundle.TaskText.{TaskText}
use Rattle.bundle_text.specs.declared.bundle.PlanText.{PlanText}
use Rattle.bundle_text.specs.declared.bundle.Code.{Code}
use Rattle.bundle_text.specs.declared.bundle.Code.TheVariants.{Words, Text}
use Rattle.bundle_text.specs.declared.bundle.BundleKind.TheVariants as kind
use Rattle.bundle_text.specs.declared.draft.Draft.{Draft}
use Rattle.bundle_text.specs.declared.draft.Word.TheVariants as word
use Rattle.bundle_text.specs.declared.draft.Place.{Place}
use Rattle.bundle_text.specs.declared.draft.Place.TheVariants as at
use Rattle.bundle_text.proofs.Steps.{err_ok}
use Rattle.bundle_text.proofs.RoundTrip.Drafts.{so_far, closed_at, MayOrder, MayEvents, MayWorlds, MayTasks, after_order, after_events, after_worlds, after_tasks, after_plans}
use Rattle.bundle_text.proofs.RoundTrip.Plans.{with_slots, other_way}
use Rattle.bundle_text.proofs.RoundTrip.Tasks.{with_tasks}
use Rattle.bundle_text.proofs.Grammar.Operands.{number_read, words_read, events_read, order_runs_read, plan_read, task_of, head_read, world_read}
use Rattle.bundle_text.proofs.Grammar.Lines.{silent_read, word_read, code_read, endcode_read}
use Rattle.bundle_text.proofs.Grammar.Walk.{world_length}
use Rattle.bundle_text.proofs.Grammar.Makes.{Makes, makes_none, makes_line, makes_one, makes_on, makes_silent, SectionMakes, section_makes, makes_code}

-- ---- the order, events and worlds

order_makes : (banded : Bool) (b : Bundle) (lines : List (List ℕ)) (number : ℕ) (place : Place) (runs : List OrderRun) → MayOrder place
    → AreSaid (SaysEach (codes "order") IsOrderRun) lines runs
    → SectionMakes (λ place runs. closed_at banded place (record b { order = runs })) MayOrder number place [] runs lines
order_makes banded b lines number place runs may said =
    let draft : Place → List OrderRun → Draft = λ place runs. closed_at banded place (record b { order = runs }) in
    section_makes (SaysEach (codes "order") IsOrderRun) draft MayOrder (λ l. Unit {0}) at.Order after_order
    (λ number place front line may is. silent_read number (draft place front) line may.outside is)
    (λ number place front items others line may h fits.
    word_read word.Order number (draft place front) line h.0 at.Order (draft at.Order (front ++ items)) may.outside h.1 may.order
    (ap (λ r. r >>= λ runs. Ok (draft at.Order (front ++ runs))) (order_runs_read h.0 items h.2)))
    lines number place [] runs may said tt

events_make : (banded : Bool) (b : Bundle) (lines : List (List ℕ)) (number : ℕ) (place : Place) (runs : List EventRun) → MayEvents place
    → AreSaid (SaysEach (codes "events") IsEventRun) lines runs
    → SectionMakes (λ place runs. closed_at banded place (record b { events = runs })) MayEvents number place [] runs lines
events_make banded b lines number place runs may said =
    let draft : Place → List EventRun → Draft = λ place runs. closed_at banded place (record b { events = runs }) in
    section_makes (SaysEach (codes "events") IsEventRun) draft MayEvents (λ l. Unit {0}) at.Events after_events
    (λ number place front line may is. silent_read number (draft place front) line may.later.outside is)
    (λ number place front items others line may h fits.
    word_read word.Events number (draft place front) line h.0 at.Events (draft at.Events (front ++ items)) may.later.outside h.1 may.events
    (ap (λ r. r >>= λ runs. Ok (draft at.Events (front ++ runs))) (events_read h.0 items h.2)))
    lines number place [] runs may said tt

all_middle : {A : Type 0} (P : A → Type 0) (xs ys : List A) (x : A) → AllByRecursion P (xs ++ x ∷ ys) → P x
all_middle P [] ys x all = all.0
all_middle P (y ∷ xs) ys x all = all_middle P xs ys x all.1

long_so_far : (front others : List World) (w : World) → AreWorldsAsLong (front ++ w ∷ others) → is_as_long front (length w.tape) ≡ true
long_so_far [] others w fits = refl
long_so_far (first ∷ front) others w fits =
    eq-eqb (length first.tape) (length w.tape) (sym (all_middle (λ v. length v.tape ≡ length first.tape) front others w fits))

world_reads : (ts : List (List ℕ)) (w : World) (worlds : List World) → world_operands [] ts ≡ Ok w → is_as_long worlds (length w.tape) ≡ true
    → world_operands worlds ts ≡ Ok w
world_reads [] w worlds e long = absurd (err_ok w kind.Operands e)
world_reads (secret ∷ tape) w worlds e long =
    cond-true (is_as_long worlds (length tape)) (world_operands [] (secret ∷ tape)) (Err kind.Operands)
    (ap (λ n. is_as_long worlds n) (sym (world_length secret tape w e)) ∙ long) ∙ e

world_says : (banded : Bool) (b : Bundle) (number : ℕ) (place : Place) (front items others : List World) (line : List ℕ) → MayWorlds place
    → SaysOne (codes "world") IsWorld line items → AreWorldsAsLong (front ++ (items ++ others))
    → with_line number (closed_at banded place (record b { worlds = front })) line ≡ Ok (closed_at banded at.Worlds (record b { worlds = front ++ items }))
world_says banded b number place front items others line may h fits =
    let draft : Place → List World → Draft = λ place worlds. closed_at banded place (record b { worlds = worlds }) in
    let long = long_so_far front others h.1 (subst (λ l. AreWorldsAsLong (front ++ (l ++ others))) h.4 fits) in
    subst (λ l. with_line number (draft place front) line ≡ Ok (draft at.Worlds (front ++ l))) (sym h.4)
    (word_read word.World number (draft place front) line h.0 at.Worlds (draft at.Worlds (front ++ h.1 ∷ [])) may.later.later.outside h.2 may.worlds
    (ap (λ r. r >>= λ w. Ok (draft at.Worlds (front ++ w ∷ []))) (world_reads h.0 h.1 front (world_read h.0 h.1 h.3) long)))

worlds_make : (banded : Bool) (b : Bundle) (lines : List (List ℕ)) (number : ℕ) (place : Place) (worlds : List World) → MayWorlds place
    → AreSaid (SaysOne (codes "world") IsWorld) lines worlds → AreWorldsAsLong worlds
    → SectionMakes (λ place worlds. closed_at banded place (record b { worlds = worlds })) MayWorlds number place [] worlds lines
worlds_make banded b lines number place worlds may said long =
    let draft : Place → List World → Draft = λ place worlds. closed_at banded place (record b { worlds = worlds }) in
    section_makes (SaysOne (codes "world") IsWorld) draft MayWorlds AreWorldsAsLong at.Worlds after_worlds
    (λ number place front line may is. silent_read number (draft place front) line may.later.later.outside is) (world_says banded b)
    lines number place [] worlds may said long

-- ---- plans

record MayPlans (place : Place) : Type 0 where
  plans : place_after place word.Plan ≡ Some at.Plans
  later : MayTasks place

outside_of : (place : Place) → MayTasks place → is_in_code place ≡ false
outside_of place may = may.later.later.later.outside

-- the hart of a plan among others has none in front
new_hart : (front others : List PlanText) (plan : PlanText) → ArePlansApart (front ++ plan ∷ others) → has_plan plan.hart front ≡ false
new_hart [] others plan apart = refl
new_hart (p ∷ front) others plan apart =
    let after = (or_parts (has_plan p.hart front) (has_plan p.hart (plan ∷ others)) (sym (list_any-append (λ q. eqb q.hart p.hart) front (plan ∷ others)) ∙ apart.0)).1 in
    let first = (or_parts (eqb plan.hart p.hart) (has_plan p.hart others) after).0 in
    or_from (eqb p.hart plan.hart) (has_plan plan.hart front) (other_way plan.hart p.hart first) (new_hart front others plan apart.1)

plan_says : (banded : Bool) (b : Bundle) (number : ℕ) (place : Place) (front items others : List PlanText) (line : List ℕ) → MayPlans place
    → SaysOne (codes "plan") IsPlan line items → ArePlansApart (front ++ (items ++ others))
    → with_line number (closed_at banded place (record b { plans = front })) line ≡ Ok (closed_at banded at.Plans (record b { plans = front ++ items }))
plan_says banded b number place front items others line may h fits =
    let draft : Place → List PlanText → Draft = λ place plans. closed_at banded place (record b { plans = plans }) in
    let new = new_hart front others h.1 (subst (λ l. ArePlansApart (front ++ (l ++ others))) h.4 fits) in
    subst (λ l. with_line number (draft place front) line ≡ Ok (draft at.Plans (front ++ l))) (sym h.4)
    (word_read word.Plan number (draft place front) line h.0 at.Plans (draft at.Plans (front ++ h.1 ∷ [])) (outside_of place may.later) h.2 may.plans
    (ap (λ r. r >>= λ plan. with_plan front plan >>= λ plans. Ok (draft at.Plans plans)) (plan_read h.0 h.1 h.3)
    ∙ ap (λ r. r >>= λ plans. Ok (draft at.Plans plans)) (cond-false (has_plan h.1.hart front) (Err kind.Repeated) (Ok (front ++ h.1 ∷ [])) new)))

plans_make : (banded : Bool) (b : Bundle) (lines : List (List ℕ)) (number : ℕ) (plans : List PlanText)
    → AreSaid (SaysOne (codes "plan") IsPlan) lines plans → ArePlansApart plans
    → SectionMakes (λ place plans. closed_at banded place (record b { plans = plans })) MayPlans number at.Plans [] plans lines
plans_make banded b lines number plans said apart =
    let draft : Place → List PlanText → Draft = λ place plans. closed_at banded place (record b { plans = plans }) in
    let ready : MayPlans at.Plans = record { plans = refl; later = after_plans } in
    section_makes (SaysOne (codes "plan") IsPlan) draft MayPlans ArePlansApart at.Plans ready
    (λ number place front line may is. silent_read number (draft place front) line (outside_of place may.later) is) (plan_says banded b)
    lines number at.Plans [] plans ready said apart

-- ---- a task

-- the task may end
record MayEnd (place : Place) : Type 0 where
  outside : is_in_code place ≡ false
  ends : place_after place word.EndTask ≡ Some at.Tasks

-- and words
record MayWords (place : Place) : Type 0 where
  words : place_after place word.Words ≡ Some at.Words
  later : MayEnd place

-- and lines of code, and a tape
record MayTape (place : Place) : Type 0 where
  tape : place_after place word.Tape ≡ Some at.Tape
  code : place_after place word.Code ≡ Some at.Code
  later : MayWords place

in_tape : MayTape at.Tape
in_tape = record { tape = refl; code = refl; later = record { words = refl; later = record { outside = refl; ends = refl } } }

after_words : MayWords at.Words
after_words = record { words = refl; later = record { outside = refl; ends = refl } }

tape_makes : (banded : Bool) (b : Bundle) (t : TaskText) (lines : List (List ℕ)) (number : ℕ) (tape : List ℕ)
    → AreSaid (SaysEach (codes "tape") IsHexWord) lines tape
    → SectionMakes (λ place tape. so_far banded place b t tape (Words [])) MayTape number at.Tape [] tape lines
tape_makes banded b t lines number tape said =
    let draft : Place → List ℕ → Draft = λ place tape. so_far banded place b t tape (Words []) in
    section_makes (SaysEach (codes "tape") IsHexWord) draft MayTape (λ l. Unit {0}) at.Tape in_tape
    (λ number place front line may is. silent_read number (draft place front) line may.later.later.outside is)
    (λ number place front items others line may h fits.
    word_read word.Tape number (draft place front) line h.0 at.Tape (draft at.Tape (front ++ items)) may.later.later.outside h.1 may.tape
    (ap (λ r. r >>= λ words. Ok (draft at.Tape (front ++ words))) (words_read h.0 items h.2)))
    lines number at.Tape [] tape in_tape said tt

words_make : (banded : Bool) (b : Bundle) (t : TaskText) (tape : List ℕ) (lines : List (List ℕ)) (number : ℕ) (place : Place) (words : List ℕ) → MayWords place
    → AreSaid (SaysEach (codes "words") IsHexWord) lines words
    → SectionMakes (λ place words. so_far banded place b t tape (Words words)) MayWords number place [] words lines
words_make banded b t tape lines number place words may said =
    let draft : Place → List ℕ → Draft = λ place words. so_far banded place b t tape (Words words) in
    section_makes (SaysEach (codes "words") IsHexWord) draft MayWords (λ l. Unit {0}) at.Words after_words
    (λ number place front line may is. silent_read number (draft place front) line may.later.outside is)
    (λ number place front items others line may h fits.
    word_read word.Words number (draft place front) line h.0 at.Words (draft at.Words (front ++ items)) may.later.outside h.1 may.words
    (ap (λ r. r >>= λ words. Ok (draft at.Words (front ++ words))) (words_read h.0 items h.2)))
    lines number place [] words may said tt

record CodeMakes (banded : Bool) (number : ℕ) (place : Place) (b : Bundle) (t : TaskText) (tape : List ℕ) (lines : List (List ℕ)) (code : Code) : Type 0 where
  next : Place
  may : MayEnd next
  makes : Makes number (so_far banded place b t tape (Words [])) lines (so_far banded next b t tape code)

code_makes : (code : Code) (banded : Bool) (number : ℕ) (place : Place) (b : Bundle) (t : TaskText) (tape : List ℕ) (lines : List (List ℕ)) → MayTape place
    → IsCode number lines code → CodeMakes banded number place b t tape lines code
code_makes (Words words) banded number place b t tape lines may is =
    let made = words_make banded b t tape lines number place words may.later is in
    record { next = made.next; may = made.ready.later; makes = made.makes }
code_makes (Text first_line code) banded number place b t tape lines may is =
    let start = so_far banded place b t tape (Words []) in
    let opened = so_far banded at.Code b t tape (Text (number + 1) []) in
    let whole = so_far banded at.Code b t tape (Text (number + 1) code) in
    let ended = so_far banded at.CodeEnd b t tape (Text (number + 1) code) in
    let opens = word_read word.Code number start is.code_line [] at.Code opened may.later.later.outside is.code_line_is may.code refl in
    let ends : with_line (number + 1 + length code) whole is.end_line ≡ Ok ended =
    code_read (number + 1 + length code) whole is.end_line refl is.end_line_is.text
    ∙ ap (λ x. Ok x) (cond-true (is_endcode (tokens is.end_line)) ended _ (endcode_read is.end_line is.end_line_is)) in
    let last = makes_line (number + 1 + length code) whole ended ended is.end_line is.after ends
    (makes_silent is.after (number + 1 + length code + 1) ended refl is.after_silent) in
    let body = makes_code code (number + 1) banded b t tape (number + 1) [] is.code_is in
    let all = makes_line number start opened ended is.code_line (code ++ (is.end_line ∷ is.after)) opens
    (makes_on (number + 1) opened whole ended code (is.end_line ∷ is.after) body last) in
    record {
      next = at.CodeEnd;
      may = record { outside = refl; ends = refl };
      makes = subst (λ l. Makes number start l (so_far banded at.CodeEnd b t tape (Text first_line code))) (sym is.parts)
          (subst (λ n. Makes number start (is.code_line ∷ (code ++ (is.end_line ∷ is.after))) (so_far banded at.CodeEnd b t tape (Text n code)))
          (sym is.numbered) all);
    }

block_makes : (banded : Bool) (number : ℕ) (place : Place) (b : Bundle) (lines : List (List ℕ)) (task : TaskText) → MayTasks place
    → IsTaskBlock banded number lines task → Makes number (closed_at banded place b) lines (closed_at banded at.Tasks (with_tasks b (task ∷ [])))
block_makes banded number place b lines task may h =
    let t = task_with task.fuel task.out_max task.data_len task.band in
    let start = closed_at banded place b in
    let opened = so_far banded at.Tape b t [] (Words []) in
    let ended = closed_at banded at.Tasks (with_tasks b (task ∷ [])) in
    let opens = word_read word.Task number start h.head h.head_tokens at.Tape opened (outside_of place may) h.head_is may.tasks
    (ap (λ r. r >>= λ limits. Ok (so_far banded at.Tape b (task_of limits) [] (Words []))) (head_read banded h.head_tokens task h.limits_are)) in
    let tape = tape_makes banded b t h.tape (number + 1) task.tape h.tape_is in
    let taped = so_far banded tape.next b t task.tape (Words []) in
    let code = code_makes task.code banded (number + 1 + length h.tape) tape.next b t task.tape h.code tape.ready h.code_is in
    let coded = so_far banded code.next b t task.tape task.code in
    let number_end = number + 1 + length h.tape + length h.code in
    let ends = word_read word.EndTask number_end coded h.end_line [] at.Tasks ended code.may.outside h.end_line_is code.may.ends refl in
    let last = makes_line number_end coded ended ended h.end_line h.after ends (makes_silent h.after (number_end + 1) ended refl h.after_silent) in
    subst (λ l. Makes number start l ended) (sym h.parts)
    (makes_line number start opened ended h.head (h.tape ++ (h.code ++ (h.end_line ∷ h.after))) opens
    (makes_on (number + 1) opened taped ended h.tape (h.code ++ (h.end_line ∷ h.after)) tape.makes
    (makes_on (number + 1 + length h.tape) taped coded ended h.code (h.end_line ∷ h.after) code.makes last)))

record TasksMake (banded : Bool) (number : ℕ) (place : Place) (b : Bundle) (lines : List (List ℕ)) (tasks : List TaskText) : Type 0 where
  next : Place
  may : MayTasks next
  makes : Makes number (closed_at banded place b) lines (closed_at banded next (with_tasks b tasks))

tasks_make : (tasks : List TaskText) (banded : Bool) (number : ℕ) (place : Place) (b : Bundle) (lines : List (List ℕ)) → MayTasks place
    → AreTaskBlocks banded number lines tasks → TasksMake banded number place b lines tasks
tasks_make [] banded number place b lines may none = record {
  next = place;
  may = may;
  makes = subst (λ l. Makes number (closed_at banded place b) l (closed_at banded place (with_tasks b []))) (sym none)
      (subst (λ ts. Makes number (closed_at banded place b) [] (closed_at banded place (record b { tasks = ts }))) (sym (append-nil b.tasks))
      (makes_none number (closed_at banded place b)));
}
tasks_make (task ∷ tasks) banded number place b lines may h =
    let start = closed_at banded place b in
    let middle = closed_at banded at.Tasks (with_tasks b (task ∷ [])) in
    let first = block_makes banded number place b h.0 task may h.3 in
    let more = tasks_make tasks banded (number + length h.0) at.Tasks (with_tasks b (task ∷ [])) h.1 after_tasks h.4 in
    let last = closed_at banded more.next (with_tasks (with_tasks b (task ∷ [])) tasks) in
    record {
      next = more.next;
      may = more.may;
      makes = subst (λ l. Makes number start l (closed_at banded more.next (with_tasks b (task ∷ tasks)))) (sym h.2)
          (subst (λ ts. Makes number start (h.0 ++ h.1) (closed_at banded more.next (record b { tasks = ts }))) (append_assoc b.tasks (task ∷ []) tasks)
          (makes_on number start middle last h.0 h.1 first more.makes));
    }

-- ---- the whole

head_makes : (lines : List (List ℕ)) (version slots : ℕ) → IsHead lines version slots
    → Makes 1 no_lines lines (closed_at (version == 2) at.Plans (with_slots slots))
head_makes lines version slots h =
    let header = closed_at (version == 2) at.Header (with_slots 0) in
    let next = closed_at (version == 2) at.Plans (with_slots slots) in
    let number = 1 + length h.before in
    let first = word_read word.Bundle number no_lines h.bundle_line (h.version_token ∷ []) at.Header header refl h.bundle_line_is refl
    (ap (λ r. r >>= λ v. Ok (closed_at (v == 2) at.Header (with_slots 0))) (number_read 1 2 h.version_token version h.version_is)) in
    let second = word_read word.Slots (number + 1 + length h.between) header h.slots_line (h.slots_token ∷ []) at.Plans next refl h.slots_line_is refl
    (ap (λ r. r >>= λ n. Ok (closed_at (version == 2) at.Plans (with_slots n))) (number_read 1 8 h.slots_token slots h.slots_is)) in
    subst (λ l. Makes 1 no_lines l next) (sym h.parts)
    (makes_on 1 no_lines no_lines next h.before (h.bundle_line ∷ (h.between ++ h.slots_line ∷ [])) (makes_silent h.before 1 no_lines refl h.before_silent)
    (makes_line number no_lines header next h.bundle_line (h.between ++ h.slots_line ∷ []) first
    (makes_on (number + 1) header header next h.between (h.slots_line ∷ []) (makes_silent h.between (number + 1) header refl h.between_silent)
    (makes_one (number + 1 + length h.between) header next h.slots_line second))))

pub sections_read : (text : List (List ℕ)) (bundle : Bundle) → IsBundle text bundle → with_lines 1 no_lines text ≡ Ok bundle
sections_read text bundle h =
    let banded = h.version == 2 in
    let number = 1 + length h.head in
    let head = head_makes h.head h.version bundle.slots h.head_is in
    let none = with_slots bundle.slots in
    let plans = plans_make banded none h.plans number bundle.plans h.plans_are h.plans_apart in
    let planned = record none { plans = bundle.plans } in
    let tasks = tasks_make bundle.tasks banded (number + length h.plans) plans.next planned h.tasks plans.ready.later h.tasks_are in
    let tasked = with_tasks planned bundle.tasks in
    let number_worlds = number + length h.plans + length h.tasks in
    let worlds = worlds_make banded tasked h.worlds number_worlds tasks.next bundle.worlds tasks.may.later h.worlds_are h.worlds_as_long in
    let worlded = record tasked { worlds = bundle.worlds } in
    let events = events_make banded worlded h.events (number_worlds + length h.worlds) worlds.next bundle.events worlds.ready.later h.events_are in
    let evented = record worlded { events = bundle.events } in
    let order = order_makes banded evented h.order (number_worlds + length h.worlds + length h.events) events.next bundle.order events.ready.later h.order_is in
    let last = closed_at banded order.next bundle in
    let all : Makes 1 no_lines text last =
    subst (λ l. Makes 1 no_lines l last) (sym h.parts)
    (makes_on 1 no_lines _ last h.head _ head
    (makes_on number _ _ last h.plans _ plans.makes
    (makes_on (number + length h.plans) _ _ last h.tasks _ tasks.makes
    (makes_on number_worlds _ _ last h.worlds _ worlds.makes
    (makes_on (number_worlds + length h.worlds) _ _ last h.events h.order events.makes order.makes))))) in
    ap (λ l. with_lines 1 no_lines l) (sym (append-nil text)) ∙ all []
    ∙ cond-true (may_end order.next) (Ok bundle) (Err (record { line = 1 + length text; kind = kind.Missing })) order.ready.ends
