use Rattle.std.proofs.Common.{ℕ, ◌<◌, [], get_or}
use Rattle.masked_check.specs.Forms.{IsUnread}
use Rattle.masked_check.proofs.forms.Forms.reads.Given as goal

abbrev pub invariant-loop-i : goal.invariant-loop-i
invariant-loop-i l = (j : ℕ) → j < l.i → IsUnread l.column (get_or l.self j [])
