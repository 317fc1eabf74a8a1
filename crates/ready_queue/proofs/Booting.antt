-- The contexts of a board at boot, one slot after the other.
use Rattle.std.proofs.Common.{◌≡◌, ℕ, zero, suc, ◌+◌, ◌<◌, ◌≤◌, List, [], ◌∷◌, ◌++◌, length, take, drop, refl, ap, sym, subst, ◌∙◌, add-zero, append-nil, arith}
use Rattle.std.specs.Prelude.{All}
use Rattle.std.proofs.lemmas.List.{length-replicate, get_or-replicate}
use Rattle.std.proofs.lemmas.List.Elements.{All-nil, All-cons}
use Rattle.hart_model.specs.Cells.{blank}
use Rattle.hart_model.specs.declared.tag.Cell.{Cell}
use Rattle.hart_model.specs.Context.{BodyState, ContextState, slot_len, task_of, fresh_words, admit_of, StandsForTask}
use Rattle.core_model.specs.Board.{by_bands, contexts_from}
use Rattle.core_model.proofs.ReadyLists.{all-bands, by_bands-push}
use Rattle.context_slot.specs.Fresh.{IsFresh}
use Rattle.ready_queue.specs.Bodies.{AreFreshFrom}
use Rattle.context_slot.proofs.Admitted.{admitted-stands}
use Rattle.ready_queue.specs.declared.kind.Kind.TheVariants.{Ready}
use Rattle.ready_queue.specs.Admitted.{next_context, with_next}
use Rattle.ready_queue.specs.Gives.{CanBeGiven}
use Rattle.ready_queue.specs.Laws.{BootedContextsStand}

pub all-fresh : (task_no : ℕ) (bodies : List BodyState) → AreFreshFrom task_no bodies → All IsFresh bodies
all-fresh task_no [] h = All-nil IsFresh
all-fresh task_no (b ∷ bs) h = All-cons IsFresh b bs h.1 (all-fresh (task_no + 1) bs h.2)

pub length-contexts : (slot : ℕ) (bodies : List BodyState) → length (contexts_from slot bodies) ≡ length bodies
length-contexts slot [] = refl
length-contexts slot (b ∷ bs) = ap suc (length-contexts (slot + 1) bs)

-- one slot more
contexts-more-from : (first k : ℕ) (bodies : List BodyState)
    → contexts_from first (take (suc k) bodies) ≡ contexts_from first (take k bodies) ++ next_context (drop k bodies) (first + k) fresh_words
contexts-more-from first zero [] = refl
contexts-more-from first zero (b ∷ bs) = rw add-zero refl
contexts-more-from first (suc k) [] = refl
contexts-more-from first (suc k) (b ∷ bs) =
    let rest = contexts-more-from (first + 1) k bs in
    let place : first + 1 + k ≡ first + suc k = omega arith in
    ap (λ cs. admit_of b first fresh_words ∷ cs) (rest ∙ ap (λ n. contexts_from (first + 1) (take k bs) ++ next_context (drop k bs) n fresh_words) place)

pub contexts-more : (k : ℕ) (bodies : List BodyState)
    → contexts_from 0 (take (k + 1) bodies) ≡ contexts_from 0 (take k bodies) ++ next_context (drop k bodies) k fresh_words
contexts-more k bodies =
    let place : 0 + k ≡ k = omega arith in
    let more : suc k ≡ k + 1 = omega arith in
    rw (← more) (contexts-more-from 0 k bodies ∙ ap (λ n. contexts_from 0 (take k bodies) ++ next_context (drop k bodies) n fresh_words) place)

-- the first bodies of fresh ones are fresh
fresh-take : (n task_no : ℕ) (bodies : List BodyState) → AreFreshFrom task_no bodies → AreFreshFrom task_no (take n bodies)
fresh-take zero task_no bodies h = tt
fresh-take (suc n) task_no [] h = tt
fresh-take (suc n) task_no (b ∷ bs) h = (h.0, h.1, fresh-take n (task_no + 1) bs h.2)

-- a fresh body in a slot that nothing was in stands for its task
admitted-can : (b : BodyState) (slot : ℕ) → IsFresh b → CanBeGiven Ready (admit_of b slot fresh_words)
admitted-can b slot h =
    let words = λ (i : ℕ) (least : 1 ≤ i) (lt : i < 32). get_or-replicate slot_len i blank blank (omega arith) in
    let stands = admitted-stands b.task_no slot (task_of b) fresh_words (length-replicate slot_len blank) words in
    (refl, subst (λ (x : BodyState). StandsForTask (admit_of x slot fresh_words) (task_of b)) (sym h) stands)

contexts-can : (slot task_no : ℕ) (bodies : List BodyState) → AreFreshFrom task_no bodies → All (CanBeGiven Ready) (contexts_from slot bodies)
contexts-can slot task_no [] h = All-nil (CanBeGiven Ready)
contexts-can slot task_no (b ∷ bs) h =
    All-cons (CanBeGiven Ready) (admit_of b slot fresh_words) (contexts_from (slot + 1) bs) (admitted-can b slot h.1) (contexts-can (slot + 1) (task_no + 1) bs h.2)

pub booted-can : BootedContextsStand
booted-can slots bodies bands h =
    all-bands (CanBeGiven Ready) bands (contexts_from 0 (take slots bodies)) (contexts-can 0 0 (take slots bodies) (fresh-take slots 0 bodies h))

-- the next waiting task, by its band
next-by-band : (bands : List ℕ) (contexts : List ContextState) (waiting : List BodyState) (slot : ℕ) (words : List Cell)
    → with_next bands (by_bands bands contexts) waiting slot words ≡ by_bands bands (contexts ++ next_context waiting slot words)
next-by-band bands contexts [] slot words = ap (by_bands bands) (sym (append-nil contexts))
next-by-band bands contexts (b ∷ bs) slot words = sym (by_bands-push bands contexts (admit_of b slot words))

pub bands-more : (bands : List ℕ) (k : ℕ) (bodies : List BodyState)
    → with_next bands (by_bands bands (contexts_from 0 (take k bodies))) (drop k bodies) k fresh_words ≡ by_bands bands (contexts_from 0 (take (k + 1) bodies))
bands-more bands k bodies =
    next-by-band bands (contexts_from 0 (take k bodies)) (drop k bodies) k fresh_words ∙ ap (by_bands bands) (sym (contexts-more k bodies))
