-- The lines so far and those of what is left are the lines of the bytes, the first line that isn't of text is one of what is left, and the
-- numbers of lines fit.
use Rattle.std.proofs.Common.{◌≡◌, ◌+◌, ◌≤◌, ◌++◌, length}
use Rattle.std.specs.List.{position_from}
use Rattle.bundle_text.specs.Pieces.{lines}
use Rattle.bundle_text.specs.TextLines.{isnt_text}
use Rattle.bundle_text.proofs.text_block.text_lines.Given as goal

abbrev pub invariant-loop-line : goal.invariant-loop-line
invariant-loop-line l =
    (lines l.bytes ≡ l.found ++ lines l.rest)
    × (position_from isnt_text 1 (lines l.bytes) ≡ position_from isnt_text l.number (lines l.rest))
    × (l.number + length l.rest ≤ length l.bytes + 1)
    × (length l.found + 1 ≡ l.number)

abbrev pub decreases-loop-line : goal.decreases-loop-line
decreases-loop-line l = length l.rest
