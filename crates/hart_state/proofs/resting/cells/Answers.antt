-- x0 is blank, and each register after it has its value.
use Rattle.std.proofs.Common.{◌≡◌, ℕ, zero, suc, ◌+◌, ◌<◌, List, ◌∷◌, length, get_or, map, sym, ap, ◌∙◌, add-one, arith}
use Rattle.std.proofs.lemmas.List.{ext_get_or, get_or-map, length-map}
use Rattle.hart_model.specs.declared.tag.Cell.{Cell}
use Rattle.hart_model.specs.Cells.{blank}
use Rattle.hart_model.specs.Csrs.{public}
use Rattle.hart_state.proofs.resting.cells.Goals as goal

cells-are : (cells : List Cell) (values : List ℕ) → length cells ≡ 32 → length values ≡ 31 → get_or cells 0 blank ≡ blank
    → ((k : ℕ) → k < 31 → get_or cells (k + 1) blank ≡ public (get_or values k 0)) → cells ≡ blank ∷ map public values
cells-are cells values count valued first below =
    let as_many = length-map values public in
    ext_get_or blank cells (blank ∷ map public values) (omega arith) at
  where
    at : (i : ℕ) → i < length cells → get_or cells i blank ≡ get_or (blank ∷ map public values) i blank
    at zero lt = first
    at (suc i) lt = ap (λ k. get_or cells k blank) (sym (add-one i)) ∙ below i (omega arith) ∙ sym (get_or-map public values i 0 blank (omega arith))

pub returns : goal.returns
returns c =
    let at = c.loop-i.invariant in
    let done = c.loop-i-test.false in
    record { cells = cells-are c.loop-i.cells c.args.values.now at.length (omega arith) at.first (λ k lt. at.below k (omega arith)) }
