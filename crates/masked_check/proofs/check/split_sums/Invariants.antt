use Rattle.std.proofs.Common.{List}
use Rattle.masked_worlds.specs.declared.role.Role.{Role}
use Rattle.masked_check.specs.Forms.{Leads}
use Rattle.masked_check.proofs.check.split_sums.Given as goal

abbrev pub invariant-loop : goal.invariant-loop
invariant-loop l = (roles : List Role) → Leads roles l.terms l.initial.forms l.forms
