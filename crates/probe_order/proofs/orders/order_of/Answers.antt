-- The pairs in order are those of the members.
use Rattle.std.proofs.Common.{◌≡◌, ℕ, List, map, take, length, get_or, IsPermutation, ap, ◌∙◌, subst, arith}
use Rattle.std.proofs.Math.Seq.{take-length}
use Rattle.probe_order.proofs.Looks.{order-is}
use Rattle.probe_order.proofs.orders.order_of.Goals as goal

pub returns : goal.returns
returns c =
    let numbers = c.args.numbers.now in
    let members = c.args.members.now in
    let with_number : ℕ → ℕ × ℕ = λ i. (get_or numbers i 0, i) in
    let sorted = c.sort_unstable.new.self.items in
    let items = c.deref-pair-items.result.now in
    let all : c.loop-member.member-index ≡ length members = omega (arith, c.loop-member-test.false, c.loop-member.auto.member-index-end) in
    let gathered : c.loop-member.pairs.items ≡ map with_number members =
    c.loop-member.invariant ∙ ap (λ (k : ℕ). map with_number (take k members)) all ∙ ap (map with_number) (take-length members) in
    let permuted : IsPermutation (map with_number members) sorted =
    subst (λ (xs : List (ℕ × ℕ)). IsPermutation xs sorted) gathered c.sort_unstable.ensures.permutation in
    let whole : c.loop-pair.pair-index ≡ length items = omega (arith, c.loop-pair-test.false, c.loop-pair.auto.pair-index-end) in
    let taken : take c.loop-pair.pair-index items ≡ sorted =
    ap (λ (k : ℕ). take k items) whole ∙ take-length items ∙ c.deref-pair-items.ensures.value in
    let beside = c.new.ensures.words ∙ c.loop-pair.invariant.beside ∙ ap (map (λ (x : ℕ × ℕ). x.0)) taken in
    let moved = c.new-2.ensures.words ∙ c.loop-pair.invariant.moved ∙ ap (map (λ (x : ℕ × ℕ). x.1)) taken in
    record { order = order-is numbers members c.requires.members sorted c.new.result c.new-2.result permuted beside moved }
