-- What is written so far, and the text of what is left, are the whole.
use Rattle.std.proofs.Common.{◌≡◌, ◌++◌, drop, map}
use Rattle.bundle_text.specs.Text.{after_blanks, word_text}
use Rattle.bundle_text.proofs.writing.add_words.Given as goal

abbrev pub invariant-loop-word : goal.invariant-loop-word
invariant-loop-word l = l.out.items ++ after_blanks (map word_text (drop l.word-index l.words)) ≡ l.initial.out.items ++ after_blanks (map word_text l.words)
