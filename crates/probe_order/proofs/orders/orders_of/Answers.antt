-- One group more.
use Rattle.std.proofs.Common.{◌≡◌, ℕ, List, [], ◌∷◌, length, length-append, slice_get, Some, refl, ap, sym, ◌∙◌, subst, arith}
use Rattle.std.proofs.lemmas.Option.{same_Some, slice_get_read}
use Rattle.probe_inspect.specs.declared.groups.Group.{Group}
use Rattle.probe_inspect.proofs.Along.{each-push}
use Rattle.probe_order.specs.Orders.{IsOrderOf}
use Rattle.probe_order.specs.declared.orders.Order.{Order}
use Rattle.probe_order.proofs.orders.orders_of.Goals as goal

pub loop-group-preserved : goal.loop-group-preserved
loop-group-preserved c =
    let groups = c.args.groups.now in
    let numbers = c.args.numbers.now in
    let orders = c.loop-group.orders.items in
    let order = c.in_ok-order_of.field-0 in
    let items = c.in_ok-push.ensures.items in
    let inv = c.loop-group.invariant in
    let i = c.loop-group.group-index in
    let g = c.group-item.result in
    let there = slice_get_read groups (length groups) i g refl c.loop-group-test.true c.group-item.is in
    let more = length-append orders (order ∷ []) in
    let P : ℕ → Order → Type 0 = λ k x. (h : Group) → slice_get groups k ≡ Some h → IsOrderOf numbers h.members x in
    let own : IsOrderOf numbers g.members order =
    subst (λ (ms : List ℕ). IsOrderOf numbers ms order) c.as_slice.ensures.words c.in_ok-order_of.ensures.order in
    let last : P (length orders) order = λ h is.
    let same : g ≡ h = same_Some g h (sym there ∙ ap (λ k. slice_get groups k) (sym inv.long) ∙ is) in
    subst (λ (k : Group). IsOrderOf numbers k.members order) same own in
    record {
      long = omega (arith, inv.long, more, ap (λ (xs : List Order). length xs) items);
      each = λ j other is. each-push P orders order inv.each last j other (ap (λ (xs : List Order). slice_get xs j) (sym items) ∙ is);
    }

pub returns : goal.returns
returns c =
    let inv = c.loop-group.invariant in record {
      orders = record {
        long = omega (arith, inv.long, c.loop-group-test.false, c.loop-group.auto.group-index-end);
        each = λ j order group is also. inv.each j order is group also;
      };
    }
