-- The text so far is that of the words so far.
use Rattle.std.proofs.Common.{◌≡◌, string_bytes, take}
use Rattle.report_text.specs.AloneReport.{output_words}
use Rattle.report_text.proofs.texts.words_string.Given as goal

abbrev pub invariant-loop-word : goal.invariant-loop-word
invariant-loop-word l = string_bytes l.text ≡ output_words (take l.word-index l.words)
