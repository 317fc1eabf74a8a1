-- The groups so far have their orders.
use Rattle.std.proofs.Common.{◌≡◌, ℕ, length, slice_get, Some}
use Rattle.probe_inspect.specs.declared.groups.Group.{Group}
use Rattle.probe_order.specs.declared.orders.Order.{Order}
use Rattle.probe_order.specs.Orders.{IsOrderOf}
use Rattle.probe_order.proofs.orders.orders_of.Given as goal

abbrev pub invariant-loop-group : goal.invariant-loop-group
invariant-loop-group l = record {
  long : length l.orders.items ≡ l.group-index;
  each : (j : ℕ) (order : Order) → slice_get l.orders.items j ≡ Some order → (group : Group) → slice_get l.groups j ≡ Some group
      → IsOrderOf l.numbers group.members order;
}
