use Rattle.std.proofs.Common.{◌≡◌, ℕ, ◌<◌, false, get_or}
use Rattle.masked_check.proofs.form.Form.reads.Given as goal

abbrev pub invariant-loop-atom : goal.invariant-loop-atom
invariant-loop-atom l = (k : ℕ) → k < l.atom-index → get_or l.column (get_or l.atom-items k 0) false ≡ false
