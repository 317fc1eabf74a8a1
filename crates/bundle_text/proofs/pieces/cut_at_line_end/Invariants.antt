-- No byte so far parts.
use Rattle.std.proofs.Common.{◌≡◌, ℕ, ◌<◌, get_or, false}
use Rattle.bundle_text.specs.Pieces.{is_line_end}
use Rattle.bundle_text.proofs.pieces.cut_at_line_end.Given as goal

abbrev pub invariant-loop-at : goal.invariant-loop-at
invariant-loop-at l = (k : ℕ) → k < l.at → is_line_end (get_or l.bytes k 0) ≡ false
