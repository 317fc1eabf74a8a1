-- The members so far with their numbers; and of the pairs in order so far, the numbers and the members.
use Rattle.std.proofs.Common.{◌≡◌, ℕ, map, take, get_or}
use Rattle.probe_order.proofs.orders.order_of.Given as goal

abbrev pub invariant-loop-member : goal.invariant-loop-member
invariant-loop-member l = l.pairs.items ≡ map (λ (i : ℕ). (get_or l.numbers i 0, i)) (take l.member-index l.members)

abbrev pub invariant-loop-pair : goal.invariant-loop-pair
invariant-loop-pair l = record {
  beside : l.beside.items ≡ map (λ (x : ℕ × ℕ). x.0) (take l.pair-index l.pair-items);
  moved : l.moved.items ≡ map (λ (x : ℕ × ℕ). x.1) (take l.pair-index l.pair-items);
}
