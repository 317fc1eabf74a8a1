-- What is written so far, and the text of what is left, are the whole.
use Rattle.std.proofs.Common.{◌≡◌, ◌++◌, drop, codes}
use Rattle.std.specs.List.{flat_map}
use Rattle.bundle_text.proofs.writing.add_code_lines.Given as goal

abbrev pub invariant-loop-line : goal.invariant-loop-line
invariant-loop-line l = l.out.items ++ flat_map (λ line. line ++ codes "\n") (drop l.line-index l.lines) ≡ l.initial.out.items ++ flat_map (λ line. line ++ codes "\n") l.lines
