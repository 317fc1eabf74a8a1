-- The worlds so far are in the list with their numbers.
use Rattle.std.proofs.Common.{◌≡◌}
use Rattle.probe_inspect.specs.Groups.{numbered}
use Rattle.probe_inspect.proofs.groups.by_secret.Given as goal

abbrev pub invariant-loop-i : goal.invariant-loop-i
invariant-loop-i l = l.order.items ≡ numbered l.worlds l.i
