use Rattle.std.proofs.Common.{ℕ, ◌<◌, List}
use Rattle.tape_terms.specs.declared.term.Term.{Term}
use Rattle.tape_terms.specs.Marks.{AreColumns}
use Rattle.masked_check.specs.Shown.{LeavesOne}
use Rattle.masked_check.specs.Forms.{seen}
use Rattle.masked_check.proofs.forms.Forms.leaves_out.Given as goal

abbrev pub invariant-loop-secret : goal.invariant-loop-secret
invariant-loop-secret l = (k : ℕ) → k < l.secret → (terms : List Term) → AreColumns terms l.columns → LeavesOne l.roles (seen terms l.self) k
