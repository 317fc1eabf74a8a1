-- Cells that stand for abstract cells, one after the other from an index on.
use Rattle.std.proofs.Common.{◌≡◌, ℕ, zero, suc, ◌+◌, ◌≤◌, ◌<◌, List, [], ◌∷◌, ◌++◌, replicate, length, get_or, drop, drop-cons, drop_of_length-le, refl, ap, subst, arith}
use Rattle.hart_model.specs.declared.tag.Cell.{Cell}
use Rattle.hart_model.specs.Cells.{blank}
use Rattle.symbolic_run.specs.AbstractCell.{AbstractCell}
use Rattle.symbolic_run.specs.Concretization.{Valuation, Denotes, AllDenote, RegsDenote}

-- one cell more
pub denote-next : (s : Valuation) (a : AbstractCell) (xs : List AbstractCell) (cs : List Cell) (n : ℕ) → n < length cs → Denotes s a (get_or cs n blank)
    → AllDenote s xs (drop (suc n) cs) → AllDenote s (a ∷ xs) (drop n cs)
denote-next s a xs cs n low one rest = rw (drop-cons cs n blank low) (one, rest)

-- none past the end
pub denote-end : (s : Valuation) (cs : List Cell) (n : ℕ) → length cs ≤ n → AllDenote s [] (drop n cs)
denote-end s cs n high = rw (drop_of_length-le cs high) tt

-- the same abstract cell for several
pub denote-repeated : (s : Valuation) (a : AbstractCell) (i m : ℕ) (xs : List AbstractCell) (cs : List Cell) → i + m ≤ length cs
    → ((j : ℕ) → i ≤ j → j < i + m → Denotes s a (get_or cs j blank)) → AllDenote s xs (drop (i + m) cs) → AllDenote s (replicate m a ++ xs) (drop i cs)
denote-repeated s a i zero xs cs len each rest = let P : ℕ → Type 0 = λ n. AllDenote s xs (drop n cs) in subst P (omega arith) rest
denote-repeated s a i (suc m) xs cs len each rest =
    let next : (j : ℕ) → suc i ≤ j → j < suc i + m → Denotes s a (get_or cs j blank) = λ j low high. each j (omega arith) (omega arith) in
    let P : ℕ → Type 0 = λ n. AllDenote s xs (drop n cs) in
    let e : i + suc m ≡ suc i + m = omega arith in
    denote-next s a (replicate m a ++ xs) cs i (omega arith) (each i (omega arith) (omega arith))
    (denote-repeated s a (suc i) m xs cs (omega arith) next (subst P e rest))

-- registers but for x0
pub denote-registers : (s : Valuation) (a : AbstractCell) (xs : List AbstractCell) (cs : List Cell) → 1 ≤ length cs → AllDenote s xs (drop 1 cs)
    → RegsDenote s (a ∷ xs) cs
denote-registers s a xs [] some all = absurd (omega arith)
denote-registers s a xs (c ∷ cs) some all = all

-- as many cells as abstract ones
pub denote-lengths : (s : Valuation) (abstract : List AbstractCell) (cs : List Cell) → AllDenote s abstract cs → length cs ≡ length abstract
denote-lengths s [] [] all = refl
denote-lengths s [] (c ∷ cs) all = absurd all
denote-lengths s (a ∷ abstract) [] all = absurd all
denote-lengths s (a ∷ abstract) (c ∷ cs) all = ap suc (denote-lengths s abstract cs all.1)
