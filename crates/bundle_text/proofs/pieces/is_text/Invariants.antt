-- What is left decides.
use Rattle.std.proofs.Common.{◌≡◌, drop}
use Rattle.bundle_text.specs.Pieces.{is_text}
use Rattle.bundle_text.proofs.pieces.is_text.Given as goal

abbrev pub invariant-loop-b : goal.invariant-loop-b
invariant-loop-b l = is_text l.line ≡ is_text (drop l.b-index l.line)
