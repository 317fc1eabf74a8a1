-- The words so far, and those of the lines that are left, are the words of the text.
use Rattle.std.proofs.Common.{◌≡◌, ◌≤◌, ◌++◌, length, drop, vec_len}
use Rattle.core_model.specs.KernelWords.{words_from, words_of}
use Rattle.switch_emit.proofs.text.Text.words.Given as goal

abbrev pub invariant-loop-line : goal.invariant-loop-line
invariant-loop-line l =
    (vec_len l.words ≤ l.line-index)
    × (l.words.items ++ words_from l.line-items (length l.words.items) (drop l.line-index l.line-items) ≡ words_of l.line-items)
