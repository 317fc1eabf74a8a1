-- No word so far has the name.
use Rattle.std.proofs.Common.{◌≡◌, drop}
use Rattle.std.specs.List.{find}
use Rattle.std.specs.Str.{bytes_eq}
use Rattle.asm_line.specs.Table.{row_of}
use Rattle.asm_line.proofs.mnemonic.first_named.Given as goal

abbrev pub invariant-loop-word : goal.invariant-loop-word
invariant-loop-word l =
    find (λ word. bytes_eq (row_of word).name l.text) l.words ≡ find (λ word. bytes_eq (row_of word).name l.text) (drop l.word-index l.words)
