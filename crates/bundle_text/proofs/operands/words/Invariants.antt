-- What is found so far, and what the tokens that are left say, is what all tokens say.
use Rattle.std.proofs.Common.{◌≡◌, drop}
use Rattle.bundle_text.specs.Pieces.{texts}
use Rattle.bundle_text.specs.Numbers.{word_of}
use Rattle.bundle_text.specs.Operands.{each}
use Rattle.bundle_text.proofs.Eaches.{each_after}
use Rattle.bundle_text.proofs.operands.words.Given as goal

abbrev pub invariant-loop-token : goal.invariant-loop-token
invariant-loop-token l = each word_of (texts l.tokens) ≡ each_after word_of l.found.items (texts (drop l.token-index l.tokens))
