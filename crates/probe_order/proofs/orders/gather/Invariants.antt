-- The numbers of the members so far.
use Rattle.std.proofs.Common.{◌≡◌, take}
use Rattle.probe_order.specs.Orders.{numbers_at}
use Rattle.probe_order.proofs.orders.gather.Given as goal

abbrev pub invariant-loop-member : goal.invariant-loop-member
invariant-loop-member l = l.along.items ≡ numbers_at l.numbers (take l.member-index l.members)
