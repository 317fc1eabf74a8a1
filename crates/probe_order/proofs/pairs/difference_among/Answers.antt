-- The places are looked at, one after the other, each with the later ones.
use Rattle.std.proofs.Common.{◌≡◌, ◌⊎◌, inl, inr, ◌+◌, ◌<◌, ◌≤◌, ℕ, List, Option, length, ap, sym, ◌∙◌, subst, arith}
use Rattle.std.proofs.lemmas.Bool.{cases_lt}
use Rattle.probe_order.specs.Numbers.{AreColumnsOf}
use Rattle.probe_order.specs.Pairs.{AreAlikeAfter, AreAlikePairs, IsFoundAfter, IsFirstAfter}
use Rattle.probe_order.specs.declared.columns.Column.{Column}
use Rattle.probe_order.specs.declared.pairs.Pair.{Pair}
use Rattle.probe_order.proofs.pairs.difference_among.Goals as goal

pub difference_after-requires-clause-cells : goal.difference_after-requires-clause-cells
difference_after-requires-clause-cells c = λ k low.
    let long = ap (λ (xs : List Column). length xs) c.as_slice.ensures.value in
    let places = c.in_ok-columns.ensures.columns.long in
    c.requires.cells k (omega (arith, low, long, places))

pub difference_after-requires-clause-columns : goal.difference_after-requires-clause-columns
difference_after-requires-clause-columns c =
    let columns = c.in_ok-columns.columns.items in
    let places = c.in_ok-columns.ensures.columns.long in
    let own : AreColumnsOf c.args.rows.now (length columns) columns =
    subst (λ (n : ℕ). AreColumnsOf c.args.rows.now n columns) (sym places) c.in_ok-columns.ensures.columns in
    subst (λ (xs : List Column). AreColumnsOf c.args.rows.now (length xs) xs) (sym c.as_slice.ensures.value) own

pub difference_after-requires-clause-low : goal.difference_after-requires-clause-low
difference_after-requires-clause-low c =
    let long = ap (λ (xs : List Column). length xs) c.as_slice.ensures.value in
    let places = c.in_ok-columns.ensures.columns.long in
    omega (arith, c.loop-first-test.true, long, places)

pub returns-in-Some : goal.returns-in-Some
returns-in-Some c =
    let groups = c.args.groups.now in
    let rows = c.args.rows.now in
    let n = c.args.places in
    let pair = c.in-Some.pair in
    let long : length c.as_slice.result.now ≡ n = ap (λ (xs : List Column). length xs) c.as_slice.ensures.value ∙ c.in_ok-columns.ensures.columns.long in
    let found : IsFirstAfter groups rows c.loop-first.first n pair =
    subst (λ (k : ℕ). IsFirstAfter groups rows c.loop-first.first k pair) long
    (subst (λ (o : Option Pair). IsFoundAfter groups rows c.loop-first.first (length c.as_slice.result.now) o) c.in-Some.is c.in_ok-pair.ensures.found) in
    let P : ℕ → Type 0 = λ k. AreAlikePairs groups rows k n in
    let Q : ℕ → Type 0 = λ k. IsFirstAfter groups rows k n pair in
    record { found = record { earlier = subst P (sym found.first) c.loop-first.invariant; here = subst Q (sym found.first) found } }

pub loop-first-preserved : goal.loop-first-preserved
loop-first-preserved c = λ p low. go p low (cases_lt p c.loop-first.first)
  where
    go : (p : ℕ) → p < c.loop-first.first + 1 → (p < c.loop-first.first) ⊎ (c.loop-first.first ≤ p)
        → AreAlikeAfter c.args.groups.now c.args.rows.now p c.args.places
    go p low (inl less) = c.loop-first.invariant p less
    go p low (inr past) =
        let same : c.loop-first.first ≡ p = omega (arith, low, past) in
        let long : length c.as_slice.result.now ≡ c.args.places =
        ap (λ (xs : List Column). length xs) c.as_slice.ensures.value ∙ c.in_ok-columns.ensures.columns.long in
        let here : AreAlikeAfter c.args.groups.now c.args.rows.now c.loop-first.first (length c.as_slice.result.now) =
        subst (λ (o : Option Pair). IsFoundAfter c.args.groups.now c.args.rows.now c.loop-first.first (length c.as_slice.result.now) o)
        c.in_default.is c.in_ok-pair.ensures.found in
        let P : ℕ → Type 0 = λ k. AreAlikeAfter c.args.groups.now c.args.rows.now k c.args.places in
        let Q : ℕ → Type 0 = λ k. AreAlikeAfter c.args.groups.now c.args.rows.now c.loop-first.first k in
        subst P same (subst Q long here)

pub returns : goal.returns
returns c = record { found = λ p low. c.loop-first.invariant p (omega (arith, low, c.loop-first-test.false)) }
