-- What was passed was blank.
use Rattle.std.proofs.Common.{◌≡◌, ◌≤◌, take, length}
use Rattle.asm_line.specs.Pieces.{trim_end}
use Rattle.asm_line.proofs.pieces.trim_end.Given as goal

abbrev pub invariant-loop-end : goal.invariant-loop-end
invariant-loop-end l = (l.end ≤ length l.text) × (trim_end l.text ≡ trim_end (take l.end l.text))

abbrev pub decreases-loop-end : goal.decreases-loop-end
decreases-loop-end l = l.end
