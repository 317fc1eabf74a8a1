use Rattle.std.proofs.Common.{◌≡◌, take}
use Rattle.tape_terms.specs.Marks.{marks}
use Rattle.tape_terms.proofs.column.Column.new.Given as goal

abbrev pub invariant-loop-term : goal.invariant-loop-term
invariant-loop-term l = l.marks.items ≡ marks (take l.term-index l.term-items) l.place
