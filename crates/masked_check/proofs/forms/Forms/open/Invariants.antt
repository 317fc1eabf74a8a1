use Rattle.std.proofs.Common.{◌≡◌, ◌+◌, List, [], ◌∷◌, length, get_or}
use Rattle.masked_worlds.specs.declared.role.Role.{Role}
use Rattle.masked_check.specs.Forms.{Leads}
use Rattle.masked_check.proofs.forms.Forms.open.Given as goal

abbrev pub invariant-loop-i : goal.invariant-loop-i
invariant-loop-i l = record {
  leads : (roles : List Role) → Leads roles l.terms l.fn.self l.self;
  long : length l.self ≡ l.count + 2;
  first : get_or l.self l.count [] ≡ l.term.2 ∷ [];
  second : get_or l.self (l.count + 1) [] ≡ l.term.3 ∷ [];
}
