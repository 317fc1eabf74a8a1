use Rattle.std.proofs.Common.{◌≡◌, ℕ, [], ◌∷◌, map, take}
use Rattle.masked_check.proofs.check.forms_of.Given as goal

abbrev pub invariant-loop-atom : goal.invariant-loop-atom
invariant-loop-atom l = l.forms ≡ map (λ (a : ℕ). a ∷ []) (take l.atom-index l.atoms)
