-- All counts are 0.
use Rattle.std.proofs.Common.{◌-◌, length}
use Rattle.count_tables.specs.Tables.{IsEmpty}
use Rattle.probe_order.proofs.orders.lengthen.Given as goal

abbrev pub invariant-loop-counts : goal.invariant-loop-counts
invariant-loop-counts l = IsEmpty l.counts.items

abbrev pub decreases-loop-counts : goal.decreases-loop-counts
decreases-loop-counts l = l.kinds - length l.counts.items
