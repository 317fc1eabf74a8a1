-- No byte so far parts.
use Rattle.std.proofs.Common.{◌≡◌, ℕ, ◌<◌, get_or, false}
use Rattle.bundle_text.specs.Pieces.{is_blank}
use Rattle.bundle_text.proofs.pieces.cut_at_blank.Given as goal

abbrev pub invariant-loop-at : goal.invariant-loop-at
invariant-loop-at l = (k : ℕ) → k < l.at → is_blank (get_or l.line k 0) ≡ false
