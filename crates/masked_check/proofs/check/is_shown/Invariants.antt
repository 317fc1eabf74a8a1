use Rattle.std.proofs.Common.{ℕ, [], ◌∷◌, map}
use Rattle.masked_check.specs.Forms.{Leads}
use Rattle.masked_check.proofs.check.is_shown.Given as goal

abbrev pub invariant-loop : goal.invariant-loop
invariant-loop l = Leads l.roles l.terms (map (λ (a : ℕ). a ∷ []) l.atoms) l.forms
