-- What was passed was blank.
use Rattle.std.proofs.Common.{◌≡◌, drop}
use Rattle.asm_line.specs.Pieces.{trim_start}
use Rattle.asm_line.proofs.pieces.trim_start.Given as goal

abbrev pub invariant-loop-at : goal.invariant-loop-at
invariant-loop-at l = trim_start l.text ≡ trim_start (drop l.at l.text)
