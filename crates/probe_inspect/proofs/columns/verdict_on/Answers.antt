-- The steps are looked at one after the other.
use Rattle.std.proofs.Common.{◌≡◌, ◌+◌, ◌<◌, ◌≤◌, ◌⊎◌, inl, inr, ℕ, Option, Some, List, length, slice_get, refl, sym, ap, ◌∙◌, subst, arith}
use Rattle.std.proofs.lemmas.Bool.{cases_lt}
use Rattle.std.proofs.lemmas.Option.{slice_get_read, same_Some}
use Rattle.isa_model.specs.declared.latch.Latch.{Latch}
use Rattle.probe_inspect.specs.declared.course.Passed.{Passed}
use Rattle.probe_inspect.specs.declared.course.Course.{Course}
use Rattle.probe_inspect.specs.declared.groups.Group.{Group}
use Rattle.probe_inspect.specs.declared.rows.Row.{Row}
use Rattle.probe_inspect.specs.declared.columns.Difference.{Difference}
use Rattle.probe_inspect.specs.Course.{latches_at, places_before}
use Rattle.probe_inspect.specs.Columns.{AreAlikeAt, AreAlikeTo, AreLonger, IsFoundFrom, IsFirstOf, AreRowsAlong}
use Rattle.probe_inspect.proofs.Along.{latches-there, read-of}
use Rattle.probe_inspect.proofs.Places.{places-none, places-more, place-low}
use Rattle.probe_inspect.proofs.columns.verdict_on.Goals as goal

pub loop-step-init : goal.loop-step-init
loop-step-init c = record {
  place = sym (places-none (latches_at c.args.course.now));
  low = omega arith;
  alike = λ m i low. absurd (omega (arith, low));
}

-- the places of a step are in the rows
cells : (course : Course) (rows : List Row) (along : AreRowsAlong course rows) (n at : ℕ) (ls : List Latch) → n < length course.steps → ls ≡ latches_at course n
    → at ≡ places_before (latches_at course) n → (k : ℕ) → k < length ls → AreLonger (at + k) rows
cells course rows along n at ls low same is k under i d inside =
    let long = ap (λ (xs : List Latch). length xs) same in
    let here : k < length (latches_at course n) = omega (arith, long, under) in
    let place = place-low (latches_at course) n k (length course.steps) low here in
    let wide = along.wide i d inside in
    (omega (arith, place, is, wide.0), omega (arith, place, is, wide.1))

pub difference_from-requires-clause-cells : goal.difference_from-requires-clause-cells
difference_from-requires-clause-cells c =
    let course = c.args.course.now in
    let steps = course.steps in
    let n = c.loop-step.step in
    let passed = c.index-steps-step.result in
    let long = ap (λ (xs : List Passed). length xs) c.as_slice-steps.ensures.items in
    let low : n < length steps = omega (arith, c.loop-step-test.true, long) in
    let there = read-of c.as_slice-steps.result.now steps n passed c.as_slice-steps.ensures.items c.loop-step-test.true c.index-steps-step.is in
    let lat : c.as_slice-latches.result.now ≡ latches_at course n = c.as_slice-latches.ensures.items ∙ ap (λ (p : Passed). p.latches) (sym c.index-steps-step.is) ∙ sym (latches-there course n passed there) in
    cells course c.args.rows.now c.requires.along n c.loop-step.at c.as_slice-latches.result.now low lat
    c.loop-step.invariant.place

pub returns-in-Some : goal.returns-in-Some
returns-in-Some c =
    let course = c.args.course.now in
    let steps = course.steps in
    let groups = c.args.groups.now in
    let rows = c.args.rows.now in
    let n = c.loop-step.step in
    let inv = c.loop-step.invariant in
    let passed = c.index-steps-step.result in
    let long = ap (λ (xs : List Passed). length xs) c.as_slice-steps.ensures.items in
    let low : n < length steps = omega (arith, c.loop-step-test.true, long) in
    let there = read-of c.as_slice-steps.result.now steps n passed c.as_slice-steps.ensures.items c.loop-step-test.true c.index-steps-step.is in
    let ls = c.as_slice-latches.result.now in
    let lat : ls ≡ latches_at course n = c.as_slice-latches.ensures.items ∙ ap (λ (p : Passed). p.latches) (sym c.index-steps-step.is) ∙ sym (latches-there course n passed there) in
    let found : IsFirstOf groups rows c.loop-step.at (length ls) c.in-Some.place c.in-Some.found =
    subst (λ (o : Option (ℕ × Difference)). IsFoundFrom groups rows c.loop-step.at (length ls) o) c.in-Some.is c.in_ok-place.ensures.found in
    let here : slice_get ls c.in-Some.place ≡ Some c.index-latches-place.result =
    slice_get_read ls (length ls) c.in-Some.place c.index-latches-place.result refl found.low c.index-latches-place.is in
    let g = c.index-groups-0.result in
    let first = slice_get_read groups (length groups) 0 g refl c.requires.groups.some c.index-groups-0.is in
    record {
      verdict = record {
        low = low;
        earlier = inv.alike;
        place = c.in-Some.place;
        is_latch = ap (λ (xs : List Latch). slice_get xs c.in-Some.place) (sym lat) ∙ here;
        first = λ other also. ap (λ (k : Group). k.secret) (same_Some other g (sym also ∙ first)) ∙ ap (λ (k : Group). k.secret) c.index-groups-0.is;
        found = subst (λ k. IsFirstOf groups rows k (length (latches_at course n)) c.in-Some.place c.in-Some.found) inv.place
            (subst (λ (xs : List Latch). IsFirstOf groups rows c.loop-step.at (length xs) c.in-Some.place c.in-Some.found) lat found);
      };
    }

-- one step more whose places are alike
alike-step : (course : Course) (groups : List Group) (rows : List Row) (n at : ℕ) (ls : List Latch) → ls ≡ latches_at course n
    → at ≡ places_before (latches_at course) n → AreAlikeTo course groups rows n → ((k : ℕ) → k < length ls → AreAlikeAt groups rows (at + k))
    → AreAlikeTo course groups rows (n + 1)
alike-step course groups rows n at ls same is before here m i low under = go (cases_lt m n)
  where
    go : (m < n) ⊎ (n ≤ m) → AreAlikeAt groups rows (places_before (latches_at course) m + i)
    go (inl less) = before m i less under
    go (inr past) =
        let to : n ≡ m = omega (arith, low, past) in
        let long = ap (λ (xs : List Latch). length xs) same in
        let there = ap (λ j. length (latches_at course j)) to in
        let inside : i < length ls = omega (arith, under, long, there) in
        subst (λ k. AreAlikeAt groups rows (k + i)) (is ∙ ap (places_before (latches_at course)) to) (here i inside)

pub loop-step-preserved : goal.loop-step-preserved
loop-step-preserved c =
    let course = c.args.course.now in
    let steps = course.steps in
    let groups = c.args.groups.now in
    let rows = c.args.rows.now in
    let n = c.loop-step.step in
    let inv = c.loop-step.invariant in
    let passed = c.index-steps-step.result in
    let long = ap (λ (xs : List Passed). length xs) c.as_slice-steps.ensures.items in
    let low : n < length steps = omega (arith, c.loop-step-test.true, long) in
    let there = read-of c.as_slice-steps.result.now steps n passed c.as_slice-steps.ensures.items c.loop-step-test.true c.index-steps-step.is in
    let ls = c.as_slice-latches.result.now in
    let lat : ls ≡ latches_at course n = c.as_slice-latches.ensures.items ∙ ap (λ (p : Passed). p.latches) (sym c.index-steps-step.is) ∙ sym (latches-there course n passed there) in
    let slim : length passed.latches ≤ 7 = c.requires.along.slim n passed there in
    let wide = ap (λ (xs : List Latch). length xs) lat in
    let own = ap (λ (xs : List Latch). length xs) (c.as_slice-latches.ensures.items ∙ ap (λ (p : Passed). p.latches) (sym c.index-steps-step.is)) in
    let more = places-more (latches_at course) n in
    let none : (k : ℕ) → k < length ls → AreAlikeAt groups rows (c.loop-step.at + k) =
    subst (λ (o : Option (ℕ × Difference)). IsFoundFrom groups rows c.loop-step.at (length ls) o) c.in_default.is c.in_ok-place.ensures.found in
    record {
      place = omega (arith, inv.place, more, wide);
      low = omega (arith, inv.low, own, slim);
      alike = alike-step course groups rows n c.loop-step.at ls lat inv.place inv.alike none;
    }

pub returns : goal.returns
returns c =
    let course = c.args.course.now in
    let inv = c.loop-step.invariant in
    let upto = c.loop-step.auto.step-end in
    let at : c.loop-step.step ≡ length course.steps =
    omega (arith, upto, c.loop-step-test.false, ap (λ (xs : List Passed). length xs) c.as_slice-steps.ensures.items) in
    record {
      verdict = (
        inv.place ∙ ap (places_before (latches_at course)) at,
        subst (λ k. AreAlikeTo course c.args.groups.now c.args.rows.now k) at inv.alike,
      );
    }
