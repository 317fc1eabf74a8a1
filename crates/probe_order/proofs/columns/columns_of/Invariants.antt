-- The places so far have their columns.
use Rattle.probe_order.specs.Numbers.{AreColumnsOf}
use Rattle.probe_order.proofs.columns.columns_of.Given as goal

abbrev pub invariant-loop-at : goal.invariant-loop-at
invariant-loop-at l = AreColumnsOf l.rows l.at l.columns.items
