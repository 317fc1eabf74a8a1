-- Abstract cells by their numbers, one after the other.
use Rattle.std.proofs.Common.{◌≡◌, ℕ, zero, suc, ◌+◌, ◌≤◌, ◌<◌, List, ◌∷◌, ◌++◌, length, get_or, drop, ap, ◌∙◌, subst, arith}
use Rattle.hart_model.specs.declared.tag.Cell.{Cell}
use Rattle.hart_model.specs.Cells.{blank}
use Rattle.symbolic_run.specs.AbstractCell.{AbstractCell}
use Rattle.symbolic_run.specs.Concretization.{Valuation, Denotes, AllDenote}
use Rattle.symbolic_run.proofs.Denoted.{denote-next}
use Rattle.core_invariant.proofs.KernelCells.{numbered}

-- cells stand for numbered ones where each does
pub denote-numbered : (s : Valuation) (f : ℕ → AbstractCell) (i m : ℕ) (xs : List AbstractCell) (cs : List Cell) → i + m ≤ length cs
    → ((j : ℕ) → i ≤ j → j < i + m → Denotes s (f j) (get_or cs j blank)) → AllDenote s xs (drop (i + m) cs) → AllDenote s (numbered f i m ++ xs) (drop i cs)
denote-numbered s f i zero xs cs len each rest = let P : ℕ → Type 0 = λ n. AllDenote s xs (drop n cs) in subst P (omega arith) rest
denote-numbered s f i (suc m) xs cs len each rest =
    let next : (j : ℕ) → i + 1 ≤ j → j < i + 1 + m → Denotes s (f j) (get_or cs j blank) = λ j low high. each j (omega arith) (omega arith) in
    let P : ℕ → Type 0 = λ n. AllDenote s xs (drop n cs) in
    let Q : ℕ → Type 0 = λ n. AllDenote s (numbered f (i + 1) m ++ xs) (drop n cs) in
    let e : i + 1 ≡ suc i = omega arith in
    let e' : i + suc m ≡ i + 1 + m = omega arith in
    denote-next s (f i) (numbered f (i + 1) m ++ xs) cs i (omega arith) (each i (omega arith) (omega arith))
    (subst Q e (denote-numbered s f (i + 1) m xs cs (omega arith) next (subst P e' rest)))

-- an element of numbered cells in a row
pub numbered-get : (cell : ℕ → AbstractCell) (first more : ℕ) (rest : List AbstractCell) (k : ℕ) (d : AbstractCell) → k < more
    → get_or (numbered cell first more ++ rest) k d ≡ cell (first + k)
numbered-get cell first zero rest k d low = absurd (omega arith)
numbered-get cell first (suc more) rest zero d low = ap cell (omega arith)
numbered-get cell first (suc more) rest (suc k) d low =
    let same : first + 1 + k ≡ first + suc k = omega arith in
    numbered-get cell (first + 1) more rest k d (omega arith) ∙ ap cell same

-- and of what comes after them
pub numbered-skip : (cell : ℕ → AbstractCell) (first more : ℕ) (rest : List AbstractCell) (k : ℕ) (d : AbstractCell)
    → get_or (numbered cell first more ++ rest) (more + k) d ≡ get_or rest k d
numbered-skip cell first zero rest k d = ap (λ i. get_or rest i d) (omega arith)
numbered-skip cell first (suc more) rest k d =
    let same : suc more + k ≡ suc (more + k) = omega arith in
    ap (λ i. get_or (cell first ∷ numbered cell (first + 1) more ++ rest) i d) same ∙ numbered-skip cell (first + 1) more rest k d
