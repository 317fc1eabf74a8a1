-- The orders so far look like the first one.
use Rattle.std.proofs.Common.{◌≡◌, ◌<◌, ℕ, length, slice_get, Some}
use Rattle.count_tables.specs.Tables.{IsEmpty}
use Rattle.probe_order.specs.declared.orders.Order.{Order}
use Rattle.probe_order.specs.Orders.{LooksLikeFirst}
use Rattle.probe_order.proofs.orders.look_alike.Given as goal

abbrev pub invariant-loop-j : goal.invariant-loop-j
invariant-loop-j l = record {
  size : length l.counts ≡ length l.initial.counts;
  empty : IsEmpty l.counts;
  alike : (i : ℕ) (order : Order) → i < l.j → slice_get l.orders i ≡ Some order → LooksLikeFirst l.orders l.numbers order;
}
