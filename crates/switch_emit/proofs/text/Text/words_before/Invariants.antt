-- The words counted so far, and those before the label in the lines that are left.
use Rattle.std.proofs.Common.{◌≡◌, ◌+◌, ◌≤◌, drop}
use Rattle.core_model.specs.KernelWords.{words_before}
use Rattle.switch_emit.specs.Lines.{label_of}
use Rattle.switch_emit.proofs.text.Text.words_before.Given as goal

abbrev pub invariant-loop-line : goal.invariant-loop-line
invariant-loop-line l =
    (l.count ≤ l.line-index)
    × (l.count + words_before (label_of l.label) (drop l.line-index l.line-items) ≡ words_before (label_of l.label) l.line-items)
