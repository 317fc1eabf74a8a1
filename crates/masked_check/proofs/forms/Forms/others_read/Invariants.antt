use Rattle.std.proofs.Common.{◌≢◌, ℕ, ◌<◌, [], get_or}
use Rattle.masked_check.specs.Forms.{IsUnread}
use Rattle.masked_check.proofs.forms.Forms.others_read.Given as goal

abbrev pub invariant-loop-j : goal.invariant-loop-j
invariant-loop-j l = (k : ℕ) → k < l.j → k ≢ l.i → IsUnread l.column (get_or l.self k [])
