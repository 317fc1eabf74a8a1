use Rattle.std.proofs.Common.{◌≡◌, ◌++◌, map, take}
use Rattle.core_model.specs.KernelText as text
use Rattle.switch_emit.proofs.text.Text.append_words.Given as goal

abbrev pub invariant-loop-word : goal.invariant-loop-word
invariant-loop-word l = l.self-inside.lines.items ≡ l.initial.self-inside.lines.items ++ map text.Word (take l.word-index l.words)
