-- What the lines that are left make of the draft is what the text says, and the numbers of lines fit.
use Rattle.std.proofs.Common.{◌≡◌, ◌+◌, ◌≤◌, length}
use Rattle.bundle_text.specs.Pieces.{lines}
use Rattle.bundle_text.specs.Lines.{with_lines, bundle_of}
use Rattle.bundle_text.proofs.reading.read_lines.Given as goal

abbrev pub invariant-loop-line : goal.invariant-loop-line
invariant-loop-line l =
    (bundle_of l.bytes ≡ with_lines l.number l.draft (lines l.rest)) × (l.number + length l.rest ≤ length l.bytes + 1)

abbrev pub decreases-loop-line : goal.decreases-loop-line
decreases-loop-line l = length l.rest
