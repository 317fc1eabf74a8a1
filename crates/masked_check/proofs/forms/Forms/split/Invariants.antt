use Rattle.std.proofs.Common.{◌≡◌, ℕ, List, length}
use Rattle.masked_check.specs.Forms.{seen}
use Rattle.masked_check.proofs.forms.Forms.split.Given as goal

abbrev pub invariant-loop-i : goal.invariant-loop-i
invariant-loop-i l = record { same : (t : List ℕ) → seen l.terms l.self t ≡ seen l.terms l.initial.self t; long : length l.self ≡ length l.initial.self }
