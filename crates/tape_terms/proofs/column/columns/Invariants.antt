use Rattle.std.proofs.Common.{◌≡◌, length}
use Rattle.tape_terms.specs.Marks.{AreColumns}
use Rattle.tape_terms.proofs.column.columns.Given as goal

abbrev pub invariant-loop-place : goal.invariant-loop-place
invariant-loop-place l = record { are : AreColumns l.terms l.columns.items; long : length l.columns.items ≡ l.place }
