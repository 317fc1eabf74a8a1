-- How long the lists of a board are after its actions.
use Rattle.std.proofs.Common.{◌≡◌, ℕ, zero, suc, ◌+◌, ◌<◌, ◌≤◌, Bool, true, false, cond, List, [], ◌∷◌, length, drop, filter, get_or, arith, ap, ◌∙◌}
use Rattle.std.specs.Prelude.{Contains}
use Rattle.hart_model.specs.declared.tag.Cell.{Cell}
use Rattle.hart_model.specs.Context.{BodyState, admit_of}
use Rattle.core_model.specs.Board.{ReadyLists, all_ready}
use Rattle.core_model.proofs.ReadyLists.{length-ready}
use Rattle.ready_queue.specs.Admitted.{next_context, with_next}

length-filter-le : {X : Type 0} (p : X → Bool) (xs : List X) → length (filter p xs) ≤ length xs
length-filter-le p [] = omega arith
length-filter-le p (x ∷ xs) =
    let rest = length-filter-le p xs in
    elim (p x) as (λ b. length (cond b (x ∷ filter p xs) (filter p xs)) ≤ suc (length xs)) [ true ↦ omega arith | false ↦ omega arith ]

-- a filter that doesn't pass an item leaves fewer
length-filter-at : {X : Type 0} (p : X → Bool) (xs : List X) (k : ℕ) (x : X) → k < length xs → get_or xs k x ≡ x → p x ≡ false → length (filter p xs) < length xs
length-filter-at p [] k x lt here fails = absurd (omega arith)
length-filter-at p (y ∷ ys) zero x lt here fails =
    let fails' : p y ≡ false = ap p here ∙ fails in
    rw fails' (let le = length-filter-le p ys in omega arith)
length-filter-at p (y ∷ ys) (suc k) x lt here fails =
    let rest = length-filter-at p ys k x (omega arith) here fails in
    elim (p y) as (λ b. length (cond b (y ∷ filter p ys) (filter p ys)) < suc (length ys)) [ true ↦ omega arith | false ↦ omega arith ]

pub length-filter-lt : {X : Type 0} (p : X → Bool) (xs : List X) (x : X) → Contains xs x → p x ≡ false → length (filter p xs) < length xs
length-filter-lt p xs x h fails = length-filter-at p xs h.0 x h.1 h.2 fails

-- a slot goes to at most one waiting task, which leaves the waiting ones
pub length-next : (waiting : List BodyState) (slot : ℕ) (words : List Cell) → length (next_context waiting slot words) ≤ 1
length-next [] slot words = omega arith
length-next (b ∷ bs) slot words = omega arith

pub length-moved : (waiting : List BodyState) (slot : ℕ) (words : List Cell) → length (drop 1 waiting) + length (next_context waiting slot words) ≡ length waiting
length-moved [] slot words = omega arith
length-moved (b ∷ bs) slot words = omega arith

pub length-with_next : (bands : List ℕ) (ready : ReadyLists) (waiting : List BodyState) (slot : ℕ) (words : List Cell)
    → length (all_ready (with_next bands ready waiting slot words)) ≡ length (all_ready ready) + length (next_context waiting slot words)
length-with_next bands ready [] slot words = omega arith
length-with_next bands ready (b ∷ bs) slot words = length-ready bands ready (admit_of b slot words)
