-- One order more looks like the first one.
use Rattle.std.proofs.Common.{◌≡◌, ◌⊎◌, inl, inr, ◌+◌, ◌<◌, ◌≤◌, ℕ, List, length, slice_get, Some, All, refl, ap, sym, ◌∙◌, subst, arith}
use Rattle.std.proofs.lemmas.Bool.{cases_lt}
use Rattle.std.proofs.lemmas.Option.{same_Some, slice_get_read, slice_get-get_or}
use Rattle.count_tables.specs.Tables.{AreBelow, HaveEquallyOftenBeside}
use Rattle.probing_laws.proofs.Transfers.{item-has}
use Rattle.probe_order.specs.Orders.{numbers_at, LooksLikeFirst}
use Rattle.probe_order.specs.declared.orders.Order.{Order}
use Rattle.probe_order.proofs.Looks.{numbers-below, found-equal}
use Rattle.probe_order.proofs.orders.look_alike.Goals as goal

pub equally_often_beside-requires-clause-first : goal.equally_often_beside-requires-clause-first
equally_often_beside-requires-clause-first c =
    let orders = c.args.orders.now in
    let numbers = c.args.numbers.now in
    let head = c.index-orders-0.result in
    let first = slice_get_read orders (length orders) 0 head refl c.requires.fitting.some c.index-orders-0.is in
    let low = item-has (λ (o : Order). All (λ i. i < length numbers) o.members) orders 0 head first c.requires.fitting.low in
    let is : c.as_slice-in-loop-j-3.result.now ≡ numbers_at numbers head.members =
    c.as_slice-in-loop-j-3.ensures.value ∙ c.in_ok-gather.ensures.along ∙ ap (numbers_at numbers) c.as_slice.ensures.words in
    subst (λ (ns : List ℕ). AreBelow ns c.loop-j.counts) (sym is)
    (numbers-below numbers head.members c.args.counts.now c.loop-j.counts c.requires.below c.loop-j.invariant.size low)

pub equally_often_beside-requires-clause-other : goal.equally_often_beside-requires-clause-other
equally_often_beside-requires-clause-other c =
    let orders = c.args.orders.now in
    let numbers = c.args.numbers.now in
    let order = c.index-orders-j.result in
    let there = slice_get_read orders (length orders) c.loop-j.j order refl c.loop-j-test.true c.index-orders-j.is in
    let low = item-has (λ (o : Order). All (λ i. i < length numbers) o.members) orders c.loop-j.j order there c.requires.fitting.low in
    let is : c.as_slice-in-loop-j-4.result.now ≡ numbers_at numbers order.members =
    c.as_slice-in-loop-j-4.ensures.value ∙ c.in_ok-gather-2.ensures.along ∙ ap (numbers_at numbers) c.as_slice-in-loop-j-2.ensures.words in
    subst (λ (ns : List ℕ). AreBelow ns c.loop-j.counts) (sym is)
    (numbers-below numbers order.members c.args.counts.now c.loop-j.counts c.requires.below c.loop-j.invariant.size low)

pub loop-j-preserved : goal.loop-j-preserved
loop-j-preserved c = record {
  size = c.equally_often_beside.ensures.length ∙ c.loop-j.invariant.size;
  empty = c.equally_often_beside.ensures.empty;
  alike = λ i order low is. go i order low is (cases_lt i c.loop-j.j);
}
  where
    go : (i : ℕ) (order : Order) → i < c.loop-j.j + 1 → slice_get c.args.orders.now i ≡ Some order → (i < c.loop-j.j) ⊎ (c.loop-j.j ≤ i)
        → LooksLikeFirst c.args.orders.now c.args.numbers.now order
    go i order low is (inl less) first first_is = c.loop-j.invariant.alike i order less is first first_is
    go i order low is (inr past) first first_is =
        let orders = c.args.orders.now in
        let numbers = c.args.numbers.now in
        let head = c.index-orders-0.result in
        let own = c.index-orders-j.result in
        let same : c.loop-j.j ≡ i = omega (arith, low, past) in
        let head_is : head ≡ first =
        same_Some head first (sym (slice_get_read orders (length orders) 0 head refl c.requires.fitting.some c.index-orders-0.is) ∙ first_is) in
        let own_is : own ≡ order =
        same_Some own order
        (sym (slice_get_read orders (length orders) c.loop-j.j own refl c.loop-j-test.true c.index-orders-j.is)
        ∙ ap (λ k. slice_get orders k) same ∙ is) in
        let one : own.numbers ≡ head.numbers =
        sym c.as_slice-in-loop-j.ensures.words ∙ found-equal c.as_slice-in-loop-j.result.now c.as_slice-beside.result.now c.ne.result c.ne.ensures c.if-ne.false
        ∙ c.as_slice-beside.ensures.words in
        let first_list : c.as_slice-in-loop-j-3.result.now ≡ numbers_at numbers head.members =
        c.as_slice-in-loop-j-3.ensures.value ∙ c.in_ok-gather.ensures.along ∙ ap (numbers_at numbers) c.as_slice.ensures.words in
        let other_list : c.as_slice-in-loop-j-4.result.now ≡ numbers_at numbers own.members =
        c.as_slice-in-loop-j-4.ensures.value ∙ c.in_ok-gather-2.ensures.along ∙ ap (numbers_at numbers) c.as_slice-in-loop-j-2.ensures.words in
        let two : HaveEquallyOftenBeside head.numbers (numbers_at numbers head.members) (numbers_at numbers own.members) =
        subst (λ (ns : List ℕ). HaveEquallyOftenBeside ns (numbers_at numbers head.members) (numbers_at numbers own.members)) c.as_slice-beside.ensures.words
        (subst (λ (ns : List ℕ). HaveEquallyOftenBeside c.as_slice-beside.result.now ns (numbers_at numbers own.members)) first_list
        (subst (λ (ns : List ℕ). HaveEquallyOftenBeside c.as_slice-beside.result.now c.as_slice-in-loop-j-3.result.now ns) other_list
        (c.equally_often_beside.ensures.equally c.if-not-equally_often_beside.false))) in
        let P : Order → Order → Type 0 = λ o h.
        (o.numbers ≡ h.numbers) × HaveEquallyOftenBeside h.numbers (numbers_at numbers h.members) (numbers_at numbers o.members) in
        subst (λ (h : Order). P order h) head_is (subst (λ (o : Order). P o head) own_is (one, two))

pub returns-clause-alike : goal.returns-clause-alike
returns-clause-alike c = λ yes k d low. c.loop-j.invariant.alike k _ (omega (arith, low, c.loop-j-test.false)) (slice_get-get_or c.args.orders.now k d low)
