-- Lists of cells that are alike, place by place: what stands at a place, a change of one place, and lengths.
use Rattle.std.proofs.Common.{◌≡◌, ℕ, zero, suc, List, [], ◌∷◌, length, get_or, set, refl, ap}
use Rattle.hart_model.specs.declared.tag.Cell.{Cell}
use Rattle.hart_model.specs.Cells.{blank}
use Rattle.hart_model.specs.Csrs.{public}
use Rattle.core_model.specs.LowEquivalence.{ArePairwise}
use Rattle.core_model.specs.AlikeHarts.{AreCellsAlike}

-- a cell is alike to itself, and public cells of one value are alike
pub cell-refl : (c : Cell) → AreCellsAlike c c
cell-refl c = record { tag = refl; value = λ e. refl }

pub public-cells : (v w : ℕ) → v ≡ w → AreCellsAlike (public v) (public w)
public-cells v w e = record { tag = refl; value = λ p. e }

-- what stands at a place of lists that are alike
pub get-alike : (cs ds : List Cell) (i : ℕ) → ArePairwise AreCellsAlike cs ds → AreCellsAlike (get_or cs i blank) (get_or ds i blank)
get-alike [] [] i a = cell-refl blank
get-alike [] (d ∷ ds) i a = absurd a
get-alike (c ∷ cs) [] i a = absurd a
get-alike (c ∷ cs) (d ∷ ds) zero a = a.0
get-alike (c ∷ cs) (d ∷ ds) (suc i) a = get-alike cs ds i a.1

-- lists stay alike where one place of both takes cells that are alike
pub set-alike : (cs ds : List Cell) (i : ℕ) (c d : Cell) → ArePairwise AreCellsAlike cs ds → AreCellsAlike c d
    → ArePairwise AreCellsAlike (set cs i c) (set ds i d)
set-alike [] [] i c d a s = tt
set-alike [] (y ∷ ds) i c d a s = absurd a
set-alike (x ∷ cs) [] i c d a s = absurd a
set-alike (x ∷ cs) (y ∷ ds) zero c d a s = (s, a.1)
set-alike (x ∷ cs) (y ∷ ds) (suc i) c d a s = (a.0, set-alike cs ds i c d a.1 s)

-- lists that are alike have one length
pub length-alike : (cs ds : List Cell) → ArePairwise AreCellsAlike cs ds → length cs ≡ length ds
length-alike [] [] a = refl
length-alike [] (d ∷ ds) a = absurd a
length-alike (c ∷ cs) [] a = absurd a
length-alike (c ∷ cs) (d ∷ ds) a = ap suc (length-alike cs ds a.1)
