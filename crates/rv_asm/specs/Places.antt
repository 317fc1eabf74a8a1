-- Labels with their places.
use Rattle.std.specs.Prelude.{ℕ, List, [], ◌∷◌, ◌++◌, map}
use Rattle.rv_asm.specs.declared.listing.Placed.{Placed}

-- the labels alone
abbrev pub names : List (List ℕ × ℕ) → List (List ℕ)
names places = map (λ e. e.0) places

-- labels of one place
abbrev pub at_place : ℕ → List (List ℕ) → List (List ℕ × ℕ)
at_place place labels = map (λ label. (label, place)) labels

-- the labels of lines
abbrev pub label_places : List Placed → List (List ℕ × ℕ)
label_places [] = []
label_places (p ∷ ps) = at_place p.place p.line.labels ++ label_places ps
