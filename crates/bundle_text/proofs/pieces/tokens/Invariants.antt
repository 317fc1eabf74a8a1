-- The tokens so far, and those of what is left, are the tokens of the line.
use Rattle.std.proofs.Common.{◌≡◌, ◌++◌, filter, option_copied}
use Rattle.bundle_text.specs.Pieces.{tokens, texts, is_blank, is_some_bytes, pieces_after}
use Rattle.bundle_text.proofs.Rest.{left}
use Rattle.bundle_text.proofs.pieces.tokens.Given as goal

abbrev pub invariant-loop-rest : goal.invariant-loop-rest
invariant-loop-rest l = tokens l.line ≡ texts l.found.items ++ filter is_some_bytes (pieces_after is_blank (option_copied l.rest))

abbrev pub decreases-loop-rest : goal.decreases-loop-rest
decreases-loop-rest l = left l.rest
