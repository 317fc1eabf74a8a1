-- The places after one are looked at, one after the other.
use Rattle.std.proofs.Common.{◌≡◌, ◌⊎◌, inl, inr, ◌+◌, ◌<◌, ◌≤◌, ℕ, List, Option, All, length, refl, ap, sym, ◌∙◌, subst, arith}
use Rattle.std.proofs.lemmas.Bool.{cases_lt}
use Rattle.std.proofs.lemmas.Option.{slice_get_read}
use Rattle.std.proofs.lemmas.List.Elements.{All-weaker}
use Rattle.count_tables.specs.Tables.{AreBelow}
use Rattle.probe_inspect.specs.declared.groups.Group.{Group}
use Rattle.probe_order.specs.Joint.{AreBothAlikeAt, IsJointFoundAt}
use Rattle.probe_order.specs.Orders.{AreOrdersOf, AreFitting, LookAlike}
use Rattle.probe_order.specs.declared.joint.JointDifference.{JointDifference}
use Rattle.probe_order.specs.declared.columns.Column.{Column}
use Rattle.probe_order.specs.declared.orders.Order.{Order}
use Rattle.probe_order.proofs.Looks.{column-below, orders-fit, alike-looks, table-written}
use Rattle.probe_order.proofs.pairs.difference_after.Goals as goal

pub orders_of-requires : goal.orders_of-requires
orders_of-requires c =
    let columns = c.args.columns.now in
    let first = c.index-columns-first.result in
    let there = slice_get_read columns (length columns) c.args.first first refl c.requires.low c.index-columns-first.is in
    let long = (c.requires.columns.each c.args.first first there).long in
    let Members : List ℕ → Type 0 = λ ns. All (λ (g : Group). All (λ i. i < length ns) g.members) c.args.groups.now in
    let members : Members first.numbers =
    All-weaker (λ (g : Group). All (λ i. i < length c.args.rows.now) g.members) (λ (g : Group). All (λ i. i < length first.numbers) g.members)
    (λ g low. All-weaker (λ i. i < length c.args.rows.now) (λ i. i < length first.numbers) (λ i under. omega (arith, under, long)) g.members low)
    c.args.groups.now c.requires.groups.members in
    let words : c.as_slice.result.now ≡ first.numbers = c.as_slice.ensures.words ∙ ap (λ (x : Column). x.numbers) (sym c.index-columns-first.is) in
    record { members = subst Members (sym words) members }

pub lengthen-requires : goal.lengthen-requires
lengthen-requires c = record { empty = c.loop-second.invariant.empty }

pub look_alike-requires-clause-fitting : goal.look_alike-requires-clause-fitting
look_alike-requires-clause-fitting c =
    let columns = c.args.columns.now in
    let groups = c.args.groups.now in
    let rows = c.args.rows.now in
    let p = c.args.first in
    let q = c.loop-second.second in
    let first = c.index-columns-first.result in
    let second = c.index-columns-second.result in
    let one = c.requires.columns.each p first (slice_get_read columns (length columns) p first refl c.requires.low c.index-columns-first.is) in
    let two = c.requires.columns.each q second (slice_get_read columns (length columns) q second refl c.loop-second-test.true c.index-columns-second.is) in
    let orders = c.in_ok-orders.orders.items in
    let words : c.as_slice.result.now ≡ first.numbers = c.as_slice.ensures.words ∙ ap (λ (x : Column). x.numbers) (sym c.index-columns-first.is) in
    let ordered : AreOrdersOf groups first.numbers orders = subst (λ (ns : List ℕ). AreOrdersOf groups ns orders) words c.in_ok-orders.ensures.orders in
    let fit = orders-fit groups rows c.requires.groups p q first second one two orders ordered in
    subst (λ (os : List Order). AreFitting os c.as_slice-numbers.result.now) (sym c.as_slice-in-loop-second.ensures.value)
    (subst (λ (ns : List ℕ). AreFitting orders ns) (sym c.as_slice-numbers.ensures.words) fit)

pub look_alike-requires-clause-below : goal.look_alike-requires-clause-below
look_alike-requires-clause-below c =
    let columns = c.args.columns.now in
    let q = c.loop-second.second in
    let second = c.index-columns-second.result in
    let two = c.requires.columns.each q second (slice_get_read columns (length columns) q second refl c.loop-second-test.true c.index-columns-second.is) in
    let table = c.as_mut_slice-table.result.now in
    let kinds = c.len-in-loop-second.ensures.length in
    let long = c.in_ok-lengthen.ensures.long in
    let size = ap (λ (xs : List ℕ). length xs) c.as_mut_slice-table.ensures.value in
    let below = column-below c.args.rows.now q second table two (omega (arith, kinds, long, size)) in
    subst (λ (ns : List ℕ). AreBelow ns table) (sym c.as_slice-numbers.ensures.words) below

pub difference_unless-requires-clause-first : goal.difference_unless-requires-clause-first
difference_unless-requires-clause-first c = c.requires.cells c.args.first c.requires.low

pub difference_unless-requires-clause-second : goal.difference_unless-requires-clause-second
difference_unless-requires-clause-second c = c.requires.cells c.loop-second.second c.loop-second-test.true

pub difference_unless-requires-clause-alike : goal.difference_unless-requires-clause-alike
difference_unless-requires-clause-alike c = λ yes.
    let columns = c.args.columns.now in
    let groups = c.args.groups.now in
    let rows = c.args.rows.now in
    let p = c.args.first in
    let q = c.loop-second.second in
    let first = c.index-columns-first.result in
    let second = c.index-columns-second.result in
    let one = c.requires.columns.each p first (slice_get_read columns (length columns) p first refl c.requires.low c.index-columns-first.is) in
    let two = c.requires.columns.each q second (slice_get_read columns (length columns) q second refl c.loop-second-test.true c.index-columns-second.is) in
    let orders = c.in_ok-orders.orders.items in
    let words : c.as_slice.result.now ≡ first.numbers = c.as_slice.ensures.words ∙ ap (λ (x : Column). x.numbers) (sym c.index-columns-first.is) in
    let ordered : AreOrdersOf groups first.numbers orders = subst (λ (ns : List ℕ). AreOrdersOf groups ns orders) words c.in_ok-orders.ensures.orders in
    let look : LookAlike orders second.numbers =
    subst (λ (os : List Order). LookAlike os second.numbers) c.as_slice-in-loop-second.ensures.value
    (subst (λ (ns : List ℕ). LookAlike c.as_slice-in-loop-second.result.now ns) c.as_slice-numbers.ensures.words (c.in_ok-alike.ensures.alike yes)) in
    alike-looks groups rows c.requires.groups p q first second one two orders ordered look

pub loop-second-preserved : goal.loop-second-preserved
loop-second-preserved c = record {
  alike = λ q after low. go q after low (cases_lt q c.loop-second.second);
  empty =
      let table = c.as_mut_slice-table.ensures.value in
      let size = ap (λ (xs : List ℕ). length xs) table in
      let same = c.look_alike.ensures.length in
      table-written c.look_alike.new.counts c.lengthen.new.counts.items c.lengthen.new.counts.len
      (omega (arith, c.lengthen.new.counts.ok.0, size, same)) c.look_alike.ensures.empty;
}
  where
    go : (q : ℕ) → c.args.first < q → q < c.loop-second.second + 1 → (q < c.loop-second.second) ⊎ (c.loop-second.second ≤ q)
        → AreBothAlikeAt c.args.groups.now c.args.rows.now c.args.first q
    go q after low (inl less) = c.loop-second.invariant.alike q after less
    go q after low (inr past) =
        let same : c.loop-second.second ≡ q = omega (arith, low, past) in
        let here : AreBothAlikeAt c.args.groups.now c.args.rows.now c.args.first c.loop-second.second =
        subst (λ (o : Option JointDifference). IsJointFoundAt c.args.groups.now c.args.rows.now c.args.first c.loop-second.second o)
        c.in_default.is c.in_ok-found.ensures.found in
        let P : ℕ → Type 0 = λ k. AreBothAlikeAt c.args.groups.now c.args.rows.now c.args.first k in
        subst P same here

pub returns : goal.returns
returns c = record { found = λ q after low. c.loop-second.invariant.alike q after (omega (arith, low, c.loop-second-test.false)) }
