-- The labels so far stand before those of what is left.
use Rattle.std.proofs.Common.{◌≡◌, length}
use Rattle.asm_line.specs.declared.pieces.Separator.TheVariants.{Colon}
use Rattle.asm_line.specs.Pieces.{pieces}
use Rattle.asm_line.specs.LineForm.{parts_of}
use Rattle.asm_line.proofs.Colons.{with_labels}
use Rattle.asm_line.proofs.reading.labels_and_rest.Given as goal

abbrev pub invariant-loop-label : goal.invariant-loop-label
invariant-loop-label l = parts_of (pieces Colon l.text) ≡ with_labels l.labels (parts_of (pieces Colon l.rest))

abbrev pub decreases-loop-label : goal.decreases-loop-label
decreases-loop-label l = length l.rest
