use Rattle.std.proofs.Common.{◌≡◌, List, length}
use Rattle.tape_terms.specs.declared.term.Term.{Term}
use Rattle.masked_worlds.specs.declared.role.Role.{Role}
use Rattle.masked_check.specs.Forms.{Leads}
use Rattle.masked_check.proofs.check.add_to_others.Given as goal

abbrev pub invariant-loop-j : goal.invariant-loop-j
invariant-loop-j l = record {
  leads : (roles : List Role) (terms : List Term) → Leads roles terms l.initial.forms l.forms;
  long : length l.forms ≡ length l.initial.forms;
}
