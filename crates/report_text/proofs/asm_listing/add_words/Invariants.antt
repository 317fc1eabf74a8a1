-- The text so far, with the lines of the words that are left, is what was there with all lines.
use Rattle.std.proofs.Common.{◌≡◌, ◌+◌, ◌*◌, ◌++◌, drop}
use Rattle.report_text.specs.AsmListing.{word_lines}
use Rattle.report_text.proofs.asm_listing.add_words.Given as goal

abbrev pub invariant-loop-index : goal.invariant-loop-index
invariant-loop-index l = l.out.items ++ word_lines (l.at + 4 * l.index) (drop l.index l.words) ≡ l.fn.out.items ++ word_lines l.at l.words
