-- With the places so far all groups are alike, and the table is empty.
use Rattle.count_tables.specs.Tables.{IsEmpty}
use Rattle.probe_order.specs.Pairs.{AreAlikeAfter}
use Rattle.probe_order.proofs.pairs.difference_after.Given as goal

abbrev pub invariant-loop-second : goal.invariant-loop-second
invariant-loop-second l = record {
  alike : AreAlikeAfter l.groups l.rows l.first l.second;
  empty : IsEmpty l.counts.items;
}
