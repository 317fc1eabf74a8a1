-- The text so far, with the listing of the tasks that are left, is the whole listing.
use Rattle.std.proofs.Common.{◌≡◌, ◌++◌, drop}
use Rattle.report_text.specs.AsmListing.{listing_from, asm_text_of}
use Rattle.report_text.proofs.asm_listing.asm_text.Given as goal

abbrev pub invariant-loop-number : goal.invariant-loop-number
invariant-loop-number l = l.text.items ++ listing_from l.number (drop l.number l.tasks) ≡ asm_text_of l.tasks
