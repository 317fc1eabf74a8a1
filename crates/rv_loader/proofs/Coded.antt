-- The tasks with the words of their code, one after another.
use Rattle.std.proofs.Common.{◌≡◌, ℕ, ◌+◌, ◌<◌, ◌≤◌, List, [], ◌∷◌, ◌++◌, length, drop, get_or, Result, Ok, Err, refl, ap, sym, ◌∙◌, append_assoc}
use Rattle.std.proofs.lemmas.List.{at_drop_more, at_drop_all, append-nil}
use Rattle.rv_asm.specs.declared.fault.AsmFault.{AsmFault}
use Rattle.bundle_text.specs.declared.bundle.TaskText.{TaskText}
use Rattle.rv_loader.specs.declared.coding.CodedTask.{CodedTask}
use Rattle.rv_loader.specs.Coding.{◌>>=◌, words_of, coded_task, coded_tasks}

-- tasks, after others that stand in front
abbrev pub coded_after : List CodedTask → Result (List CodedTask) AsmFault → Result (List CodedTask) AsmFault
coded_after front tasks = tasks >>= λ more. Ok (front ++ more)

more_in_front : (front : List CodedTask) (task : CodedTask) (rest : Result (List CodedTask) AsmFault)
    → coded_after front (rest >>= λ tasks. Ok (task ∷ tasks)) ≡ coded_after (front ++ task ∷ []) rest
more_in_front front task (Ok tasks) = ap (λ l. Ok l) (sym (append_assoc front (task ∷ []) tasks))
more_in_front front task (Err fault) = refl

-- one task more
pub coded_more : (front : List CodedTask) (texts : List TaskText) (i : ℕ) (text : TaskText) (words : List ℕ) → i < length texts → text ≡ get_or texts i text
    → words_of text.code ≡ Ok words
    → coded_after front (coded_tasks (drop i texts)) ≡ coded_after (front ++ coded_task text words ∷ []) (coded_tasks (drop (i + 1) texts))
coded_more front texts i text words lt read h =
    let rest = coded_tasks (drop (i + 1) texts) in
    at_drop_more (λ ts. coded_after front (coded_tasks ts)) texts i text lt
    ∙ ap (λ t. coded_after front (words_of t.code >>= λ ws. rest >>= λ tasks. Ok (coded_task t ws ∷ tasks))) (sym read)
    ∙ ap (λ r. coded_after front (r >>= λ ws. rest >>= λ tasks. Ok (coded_task text ws ∷ tasks))) h
    ∙ more_in_front front (coded_task text words) rest

-- code that doesn't assemble
pub coded_stops : (front : List CodedTask) (texts : List TaskText) (i : ℕ) (text : TaskText) (fault : AsmFault) → i < length texts → text ≡ get_or texts i text
    → words_of text.code ≡ Err fault
    → coded_after front (coded_tasks (drop i texts)) ≡ Err fault
coded_stops front texts i text fault lt read h =
    let rest = coded_tasks (drop (i + 1) texts) in
    at_drop_more (λ ts. coded_after front (coded_tasks ts)) texts i text lt
    ∙ ap (λ t. coded_after front (words_of t.code >>= λ ws. rest >>= λ tasks. Ok (coded_task t ws ∷ tasks))) (sym read)
    ∙ ap (λ r. coded_after front (r >>= λ ws. rest >>= λ tasks. Ok (coded_task text ws ∷ tasks))) h

-- no task is left
pub coded_end : (front : List CodedTask) (texts : List TaskText) (i : ℕ) → length texts ≤ i → coded_after front (coded_tasks (drop i texts)) ≡ Ok front
coded_end front texts i le = at_drop_all (λ ts. coded_after front (coded_tasks ts)) texts i le ∙ ap (λ l. Ok l) (append-nil front)
