-- What lies behind an outcome of loading.
use Rattle.std.proofs.Common.{◌≡◌, ℕ, List, [], ◌∷◌, Option, Some, None, Result, Ok, Err, refl, ap, sym, subst, ◌∙◌}
use Rattle.std.specs.List.{AllByRecursion}
use Rattle.std.proofs.lemmas.List.Elements.{All-from_recursion, recursion_from_All}
use Rattle.core_model.specs.declared.loaded.Loaded.{Loaded}
use Rattle.rv_asm.specs.declared.fault.AsmFault.{AsmFault}
use Rattle.bundle_text.specs.declared.bundle.Bundle.{Bundle}
use Rattle.bundle_text.specs.declared.bundle.TaskText.{TaskText}
use Rattle.rv_loader.specs.declared.coding.CodedTask.{CodedTask}
use Rattle.rv_loader.specs.declared.fault.LoadFault.{LoadFault}
use Rattle.rv_loader.specs.declared.fault.LoadFault.TheVariants.{Asm, Limit, PlanForMissingHart, TooLong, Memory}
use Rattle.rv_loader.specs.Coding.{words_of, coded_tasks}
use Rattle.rv_loader.specs.Memory.{IsNoMemoryOfCode}
use Rattle.rv_loader.specs.Refusals.{refusal_of}
use Rattle.rv_loader.specs.Loading.{loaded_of, unless_refused, loading_of_coded, loading_of}
use Rattle.rv_loader.specs.Valid.{IsTaskWithinLimits, IsValidBundle, IsSo}
use Rattle.rv_loader.proofs.Zip.{IsCoded, are_coded, coding_of, all_coded, all_uncoded, length-coded, fault_is_of}
use Rattle.rv_loader.proofs.Unrefused.{HasFewWords, IsUnrefused, unrefused, is_unrefused}
use Rattle.rv_loader.proofs.Causes.{IsSoLater, refusal_is_so}

-- A bundle that loads has coded tasks, and nothing is refused.
pub record IsLoadedFrom (bundle : Bundle) (harts : ℕ) (coded : Result (List CodedTask) AsmFault) (loaded : Loaded) : Type 0 where
  pub tasks : List CodedTask
  pub coded_is : coded ≡ Ok tasks
  pub refusal : refusal_of bundle harts tasks ≡ None
  pub loaded_is : loaded ≡ loaded_of bundle harts tasks

not_refused : (refusal : Option LoadFault) (here loaded : Loaded) → unless_refused refusal here ≡ Ok loaded → (refusal ≡ None) × (loaded ≡ here)
not_refused None here loaded h = (refl, cc)
not_refused (Some fault) here loaded h = absurd (let contra : ⊥ = cc in contra)

pub loaded_from : (bundle : Bundle) (harts : ℕ) (coded : Result (List CodedTask) AsmFault) (loaded : Loaded) → loading_of_coded bundle harts coded ≡ Ok loaded
    → IsLoadedFrom bundle harts coded loaded
loaded_from bundle harts (Err fault) loaded h = absurd (let contra : ⊥ = cc in contra)
loaded_from bundle harts (Ok tasks) loaded h =
    let both = not_refused (refusal_of bundle harts tasks) (loaded_of bundle harts tasks) loaded h in
    record { tasks = tasks; coded_is = refl; refusal = both.0; loaded_is = both.1 }

refused : (refusal : Option LoadFault) (here : Loaded) (fault : LoadFault) → unless_refused refusal here ≡ Err fault → refusal ≡ Some fault
refused None here fault h = absurd (let contra : ⊥ = cc in contra)
refused (Some first) here fault h = cc

later_is_so : (bundle : Bundle) (harts : ℕ) (fault : LoadFault) → IsSoLater bundle harts fault → IsSo bundle harts fault
later_is_so bundle harts (Asm fault) h = absurd h
later_is_so bundle harts (Limit what got) h = h
later_is_so bundle harts (PlanForMissingHart hart) h = h
later_is_so bundle harts (TooLong bound) h = h
later_is_so bundle harts Memory h = h

pub refusal_says : (bundle : Bundle) (harts : ℕ) (coded : Result (List CodedTask) AsmFault) (fault : LoadFault) → coded_tasks bundle.tasks ≡ coded
    → loading_of_coded bundle harts coded ≡ Err fault → IsSo bundle harts fault
refusal_says bundle harts (Err first) fault e h =
    let same : Asm first ≡ fault = cc in subst (λ (f : LoadFault). IsSo bundle harts f) same (fault_is_of bundle.tasks first e)
refusal_says bundle harts (Ok tasks) fault e h =
    later_is_so bundle harts fault (refusal_is_so bundle harts tasks fault (refused (refusal_of bundle harts tasks) (loaded_of bundle harts tasks) fault h))

later_no_memory : (bundle : Bundle) (harts : ℕ) (fault : LoadFault) → IsSoLater bundle harts fault → IsNoMemoryOfCode fault
later_no_memory bundle harts (Asm fault) h = absurd h
later_no_memory bundle harts (Limit what got) h = tt
later_no_memory bundle harts (PlanForMissingHart hart) h = tt
later_no_memory bundle harts (TooLong bound) h = tt
later_no_memory bundle harts Memory h = tt

-- A refusal after the assembly is no fault of code.
pub refusal_no_memory : (bundle : Bundle) (harts : ℕ) (tasks : List CodedTask) (fault : LoadFault) → refusal_of bundle harts tasks ≡ Some fault → IsNoMemoryOfCode fault
refusal_no_memory bundle harts tasks fault h = later_no_memory bundle harts fault (refusal_is_so bundle harts tasks fault h)

-- valid bundles

within_limits : (text : TaskText) (task : CodedTask) → IsCoded text task → HasFewWords task → IsTaskWithinLimits text
within_limits text task coded few =
    let code : task.code ≡ coded.words = ap (λ t. t.code) coded.task_is in
    let tape : task.tape ≡ text.tape = ap (λ t. t.tape) coded.task_is in
    record { words = coded.words; assembled = coded.assembled; code_high = rw code at few.code; tape_high = rw tape at few.tape }

few_of_limits : (text : TaskText) (task : CodedTask) → IsCoded text task → IsTaskWithinLimits text → HasFewWords task
few_of_limits text task coded limits =
    let words : coded.words ≡ limits.words = let e = sym coded.assembled ∙ limits.assembled in cc in
    let code : task.code ≡ limits.words = ap (λ t. t.code) coded.task_is ∙ words in
    let tape : task.tape ≡ text.tape = ap (λ t. t.tape) coded.task_is in
    record { code = rw code limits.code_high; tape = rw tape limits.tape_high }

pub valid_of : (bundle : Bundle) (harts : ℕ) (loaded : Loaded) → loading_of bundle harts ≡ Ok loaded → IsValidBundle bundle harts
valid_of bundle harts loaded h =
    let from = loaded_from bundle harts (coded_tasks bundle.tasks) loaded h in
    let zip = are_coded bundle.tasks from.tasks from.coded_is in
    let same = length-coded bundle.tasks from.tasks zip in
    let facts = unrefused bundle harts from.tasks from.refusal in
    record {
      tasks_low = rw same facts.tasks_low;
      tasks_high = rw same facts.tasks_high;
      tasks = All-from_recursion IsTaskWithinLimits bundle.tasks (all_uncoded HasFewWords IsTaskWithinLimits within_limits bundle.tasks from.tasks zip (recursion_from_All HasFewWords from.tasks facts.words_high));
      quanta_high = facts.quanta_high;
      worlds_high = facts.worlds_high;
      tapes_high = facts.tapes_high;
      events_high = facts.events_high;
      order_high = facts.order_high;
      harts_there = facts.harts_there;
      bound_high = facts.bound_high;
    }

have_words : (texts : List TaskText) → AllByRecursion IsTaskWithinLimits texts → AllByRecursion (λ text. (words : List ℕ) × (words_of text.code ≡ Ok words)) texts
have_words [] h = tt
have_words (text ∷ texts) h = ((h.0.words, h.0.assembled), have_words texts h.1)

pub loads : (bundle : Bundle) (harts : ℕ) → IsValidBundle bundle harts → (loaded : Loaded) × (loading_of bundle harts ≡ Ok loaded)
loads bundle harts valid =
    let each = recursion_from_All IsTaskWithinLimits bundle.tasks valid.tasks in
    let coding = coding_of bundle.tasks (have_words bundle.tasks each) in
    let zip = are_coded bundle.tasks coding.0 coding.1 in
    let same = length-coded bundle.tasks coding.0 zip in
    let facts : IsUnrefused bundle harts coding.0 = record {
      tasks_low = rw (← same) valid.tasks_low;
      tasks_high = rw (← same) valid.tasks_high;
      words_high = All-from_recursion HasFewWords coding.0 (all_coded IsTaskWithinLimits HasFewWords few_of_limits bundle.tasks coding.0 zip each);
      quanta_high = valid.quanta_high;
      worlds_high = valid.worlds_high;
      tapes_high = valid.tapes_high;
      events_high = valid.events_high;
      order_high = valid.order_high;
      harts_there = valid.harts_there;
      bound_high = valid.bound_high;
    } in (
      loaded_of bundle harts coding.0,
      ap (λ c. loading_of_coded bundle harts c) coding.1
          ∙ ap (λ r. unless_refused r (loaded_of bundle harts coding.0)) (is_unrefused bundle harts coding.0 facts),
    )
