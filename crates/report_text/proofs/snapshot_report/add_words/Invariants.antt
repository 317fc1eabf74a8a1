-- The text so far is what was there with the words so far.
use Rattle.std.proofs.Common.{◌≡◌, ◌++◌, take}
use Rattle.report_text.specs.AloneReport.{output_words}
use Rattle.report_text.proofs.snapshot_report.add_words.Given as goal

abbrev pub invariant-loop-word : goal.invariant-loop-word
invariant-loop-word l = l.out.items ≡ l.fn.out.items ++ output_words (take l.word-index l.words)
