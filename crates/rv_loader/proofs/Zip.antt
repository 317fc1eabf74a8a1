-- Tasks and what they were coded from, side by side.
use Rattle.std.proofs.Common.{◌≡◌, ℕ, ◌+◌, List, [], ◌∷◌, length, suc, Result, Ok, Err, refl, ap, sym, ◌∙◌, arith}
use Rattle.std.specs.List.{AllByRecursion, AllZip, Contains, sum_by}
use Rattle.std.proofs.lemmas.List.Elements.{Contains-append_right}
use Rattle.std.proofs.lemmas.List.Sums.{sum_by-cons}
use Rattle.rv_asm.specs.declared.fault.AsmFault.{AsmFault}
use Rattle.bundle_text.specs.declared.bundle.TaskText.{TaskText}
use Rattle.rv_loader.specs.declared.coding.CodedTask.{CodedTask}
use Rattle.rv_loader.specs.Coding.{◌>>=◌, words_of, coded_task, coded_tasks}

-- The task is the text with the words of its code.
pub record IsCoded (text : TaskText) (task : CodedTask) : Type 0 where
  pub words : List ℕ
  pub assembled : words_of text.code ≡ Ok words
  pub task_is : task ≡ coded_task text words

abbrev pub AreCoded : List TaskText → List CodedTask → Type 0
AreCoded texts tasks = AllZip IsCoded texts tasks

coded_first : (text : TaskText) (texts : List TaskText) (answer : Result (List ℕ) AsmFault) (later : Result (List CodedTask) AsmFault) (tasks : List CodedTask)
    → words_of text.code ≡ answer → ((rest : List CodedTask) → later ≡ Ok rest → AreCoded texts rest)
    → (answer >>= λ words. later >>= λ rest. Ok (coded_task text words ∷ rest)) ≡ Ok tasks → AreCoded (text ∷ texts) tasks
coded_first text texts (Ok words) (Ok rest) [] h more e = absurd (let contra : ⊥ = cc in contra)
coded_first text texts (Ok words) (Ok rest) (task ∷ tasks) h more e =
    (record { words = words; assembled = h; task_is = cc }, more tasks cc)
coded_first text texts (Ok words) (Err fault) tasks h more e = absurd (let contra : ⊥ = cc in contra)
coded_first text texts (Err fault) later tasks h more e = absurd (let contra : ⊥ = cc in contra)

pub are_coded : (texts : List TaskText) (tasks : List CodedTask) → coded_tasks texts ≡ Ok tasks → AreCoded texts tasks
are_coded [] [] h = tt
are_coded [] (task ∷ tasks) h = absurd (let contra : ⊥ = cc in contra)
are_coded (text ∷ texts) tasks h = coded_first text texts (words_of text.code) (coded_tasks texts) tasks refl (are_coded texts) h

-- Texts that all have words are coded.
pub coding_of : (texts : List TaskText) → AllByRecursion (λ text. (words : List ℕ) × (words_of text.code ≡ Ok words)) texts
    → (tasks : List CodedTask) × (coded_tasks texts ≡ Ok tasks)
coding_of [] h = ([], refl)
coding_of (text ∷ texts) h =
    let rest = coding_of texts h.1 in (
      coded_task text h.0.0 ∷ rest.0,
      ap (λ r. r >>= λ words. coded_tasks texts >>= λ tasks. Ok (coded_task text words ∷ tasks)) h.0.1
          ∙ ap (λ r. r >>= λ tasks. Ok (coded_task text h.0.0 ∷ tasks)) rest.1,
    )

-- What all texts have, their tasks have in another form.
pub all_coded : (P : TaskText → Type 0) (Q : CodedTask → Type 0) → ((text : TaskText) (task : CodedTask) → IsCoded text task → P text → Q task)
    → (texts : List TaskText) (tasks : List CodedTask) → AreCoded texts tasks → AllByRecursion P texts → AllByRecursion Q tasks
all_coded P Q f [] [] h all = tt
all_coded P Q f [] (task ∷ tasks) h all = absurd h
all_coded P Q f (text ∷ texts) [] h all = absurd h
all_coded P Q f (text ∷ texts) (task ∷ tasks) h all = (f text task h.0 all.0, all_coded P Q f texts tasks h.1 all.1)

-- And the other way.
pub all_uncoded : (P : CodedTask → Type 0) (Q : TaskText → Type 0) → ((text : TaskText) (task : CodedTask) → IsCoded text task → P task → Q text)
    → (texts : List TaskText) (tasks : List CodedTask) → AreCoded texts tasks → AllByRecursion P tasks → AllByRecursion Q texts
all_uncoded P Q f [] [] h all = tt
all_uncoded P Q f [] (task ∷ tasks) h all = tt
all_uncoded P Q f (text ∷ texts) [] h all = absurd h
all_uncoded P Q f (text ∷ texts) (task ∷ tasks) h all = (f text task h.0 all.0, all_uncoded P Q f texts tasks h.1 all.1)

pub length-coded : (texts : List TaskText) (tasks : List CodedTask) → AreCoded texts tasks → length texts ≡ length tasks
length-coded [] [] h = refl
length-coded [] (task ∷ tasks) h = absurd h
length-coded (text ∷ texts) [] h = absurd h
length-coded (text ∷ texts) (task ∷ tasks) h = ap suc (length-coded texts tasks h.1)

pub fuels-coded : (texts : List TaskText) (tasks : List CodedTask) → AreCoded texts tasks → sum_by (λ text. text.fuel) texts ≡ sum_by (λ task. task.fuel) tasks
fuels-coded [] [] h = refl
fuels-coded [] (task ∷ tasks) h = absurd h
fuels-coded (text ∷ texts) [] h = absurd h
fuels-coded (text ∷ texts) (task ∷ tasks) h =
    sum_by-cons (λ t. t.fuel) text texts
    ∙ ap (λ n. text.fuel + n) (fuels-coded texts tasks h.1)
    ∙ ap (λ n. n + sum_by (λ t. t.fuel) tasks) (sym (ap (λ t. t.fuel) h.0.task_is))
    ∙ sym (sum_by-cons (λ t. t.fuel) task tasks)

refused_first : (text : TaskText) (answer : Result (List ℕ) AsmFault) (later : Result (List CodedTask) AsmFault) (fault : AsmFault) (Q : Type 0)
    → (answer ≡ Err fault → Q) → (later ≡ Err fault → Q) → (answer >>= λ words. later >>= λ rest. Ok (coded_task text words ∷ rest)) ≡ Err fault → Q
refused_first text (Ok words) (Ok rest) fault Q first more e = absurd (let contra : ⊥ = cc in contra)
refused_first text (Ok words) (Err later) fault Q first more e = more cc
refused_first text (Err first_fault) later fault Q first more e = first cc

abbrev pub HasFault : AsmFault → List TaskText → Type 0
HasFault fault texts = (text : TaskText) × Contains texts text × (words_of text.code ≡ Err fault)

-- A fault is that of one of the texts.
pub fault_is_of : (texts : List TaskText) (fault : AsmFault) → coded_tasks texts ≡ Err fault → HasFault fault texts
fault_is_of [] fault h = absurd (let contra : ⊥ = cc in contra)
fault_is_of (text ∷ texts) fault h =
    refused_first text (words_of text.code) (coded_tasks texts) fault (HasFault fault (text ∷ texts))
    (λ e. (text, (0, omega arith, refl), e))
    (λ e. let later = fault_is_of texts fault e in (later.0, Contains-append_right (text ∷ []) texts later.0 later.1, later.2))
    h
