-- Runs written out.
use Rattle.std.proofs.Common.{◌≡◌, ℕ, ◌+◌, List, [], ◌∷◌, length, refl, sym, ap, ◌∙◌, length-append, replicate}
use Rattle.std.specs.List.{flat_map, sum_by}
use Rattle.std.proofs.lemmas.List.{length-replicate}
use Rattle.std.proofs.lemmas.List.Sums.{sum_by-cons}

-- As many as the times say.
pub length-runs : {R X : Type 0} (times : R → ℕ) (item : R → X) (runs : List R) → sum_by times runs ≡ length (flat_map (λ run. replicate (times run) (item run)) runs)
length-runs times item [] = refl
length-runs times item (run ∷ runs) =
    let all = flat_map (λ r. replicate (times r) (item r)) runs in
    sum_by-cons times run runs ∙ ap (λ n. times run + n) (length-runs times item runs)
    ∙ sym (length-append (replicate (times run) (item run)) all ∙ ap (λ n. n + length all) (length-replicate (times run) (item run)))
