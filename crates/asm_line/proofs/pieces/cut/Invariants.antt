-- No byte so far is the separator.
use Rattle.asm_line.specs.Pieces.{is_separator}
use Rattle.asm_line.proofs.Cut.{NoneBefore}
use Rattle.asm_line.proofs.pieces.cut.Given as goal

abbrev pub invariant-loop-at : goal.invariant-loop-at
invariant-loop-at l = NoneBefore (is_separator l.separator) l.text l.at
