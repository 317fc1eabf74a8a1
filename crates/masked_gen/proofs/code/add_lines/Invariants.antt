-- The lines so far are added.
use Rattle.std.proofs.Common.{◌≡◌, ◌++◌, take}
use Rattle.bundle_text.specs.Pieces.{texts}
use Rattle.masked_gen.proofs.code.add_lines.Given as goal

abbrev pub invariant-loop-line : goal.invariant-loop-line
invariant-loop-line l = l.code ≡ l.initial.code ++ texts (take l.line-index l.lines)
