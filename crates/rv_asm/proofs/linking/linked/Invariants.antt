-- The lines so far are linked, and what is left decides.
use Rattle.std.proofs.Common.{drop}
use Rattle.rv_asm.specs.Code.{place_in}
use Rattle.rv_asm.proofs.LinkedLines.{AreLinked}
use Rattle.rv_asm.proofs.linking.linked.Given as goal

abbrev pub invariant-loop-line : goal.invariant-loop-line
invariant-loop-line l = AreLinked (place_in l.places) l.lines l.words (drop l.line-index l.lines)
