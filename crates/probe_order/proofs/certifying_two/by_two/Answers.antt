-- What is found among the pairs is the verdict.
use Rattle.std.proofs.Common.{◌≡◌, ◌*◌, ◌<◌, ◌≤◌, ℕ, List, Option, Ok, length, slice_get, sym, ap, ◌∙◌, subst, arith}
use Rattle.probing_laws.specs.CertifiedTwo.{AreFewPairs, IsCertifiedTwo}
use Rattle.probing_laws.specs.declared.verdict_two.VerdictTwo.{VerdictTwo}
use Rattle.probe_inspect.specs.Course.{latches_at, places_before}
use Rattle.probe_inspect.specs.Columns.{AreLonger}
use Rattle.probe_inspect.specs.declared.groups.Group.{Group}
use Rattle.probe_inspect.specs.declared.rows.Row.{Row}
use Rattle.probe_inspect.proofs.Courses.{some-at}
use Rattle.probe_order.specs.Places.{places_in}
use Rattle.probe_order.specs.Pairs.{IsFoundAmong, IsFirstPair, AreAlikePairs}
use Rattle.probe_order.specs.declared.pairs.Pair.{Pair}
use Rattle.probe_order.specs.declared.places.Place.{Place}
use Rattle.probe_order.proofs.PlaceNumbers.{in-length}
use Rattle.probe_order.proofs.JudgedTwo.{secure-two, first-leak-two}
use Rattle.probe_order.proofs.certifying_two.by_two.Goals as goal

pub difference_among-requires-clause-cells : goal.difference_among-requires-clause-cells
difference_among-requires-clause-cells c = λ k low.
    let s = c.args.survey.now in
    let list = c.in_ok-list.list in
    let is : list.items ≡ places_in (latches_at s.course) (length s.course.steps) = c.in_ok-list.ensures.places in
    let long = ap (λ (ps : List Place). length ps) is in
    let before = in-length (latches_at s.course) (length s.course.steps) in
    let under : k < places_before (latches_at s.course) (length s.course.steps) = omega (arith, low, c.len-2.ensures, list.ok.0, long, before) in
    let cells : AreLonger k s.rows = λ i d inside.
    let wide = c.requires.fits.along.wide i d inside in (omega (arith, under, wide.0), omega (arith, under, wide.1)) in
    subst (λ (rs : List Row). AreLonger k rs) (sym c.as_slice.ensures.items) cells

pub returns-in-Some : goal.returns-in-Some
returns-in-Some c =
    let s = c.args.survey.now in
    let list = c.in_ok-list.list in
    let places = places_in (latches_at s.course) (length s.course.steps) in
    let is : list.items ≡ places = c.in_ok-list.ensures.places in
    let pair = c.in-Some.pair in
    let count : c.len-2.result ≡ length places = omega (arith, c.len-2.ensures, list.ok.0, ap (λ (ps : List Place). length ps) is) in
    let found : IsFirstPair s.groups s.rows (length places) pair =
    subst (λ (n : ℕ). IsFirstPair s.groups s.rows n pair) count
    (subst (λ (gs : List Group). IsFirstPair gs s.rows c.len-2.result pair) c.as_slice-groups.ensures.items
    (subst (λ (rs : List Row). IsFirstPair c.as_slice-groups.result.now rs c.len-2.result pair) c.as_slice.ensures.items
    (subst (λ (o : Option Pair). IsFoundAmong c.as_slice-groups.result.now c.as_slice.result.now c.len-2.result o) c.in-Some.is c.in_ok-pair.ensures.found))) in
    let low = found.here.low in
    let after = found.here.after in
    let p = some-at places pair.first (omega (arith, low, after)) in
    let q = some-at places pair.second low in
    let g = some-at s.groups 0 c.requires.fits.groups.some in
    let listed : places ≡ c.as_slice-in-Some.result.now = sym is ∙ sym c.as_slice-in-Some.ensures.value in
    let leak = c.leak_of.ensures.leak g.0 p.0 q.0
    (ap (λ (gs : List Group). slice_get gs 0) c.as_slice-groups.ensures.items ∙ g.1)
    (ap (λ (ps : List Place). slice_get ps pair.first) (sym listed) ∙ p.1)
    (ap (λ (ps : List Place). slice_get ps pair.second) (sym listed) ∙ q.1) in
    record {
      certified = λ T worlds ok survey by_one.
          let few : AreFewPairs T worlds c.args.places = record {
            by_one = by_one;
            few = subst (λ (n : ℕ). n * c.args.places * c.args.places ≤ 50000000) (c.len.ensures.length ∙ survey.rows.each.count) c.if-product-gt50000000.false;
          } in
          subst (λ (v : VerdictTwo). IsCertifiedTwo T worlds (Ok v)) (sym leak)
          ((c.args.places, few), first-leak-two T worlds ok s survey by_one.1 c.latch_order_is_total.ensures.law pair p.0 q.0 g.0 found p.1 q.1 g.1);
    }

pub returns : goal.returns
returns c =
    let s = c.args.survey.now in
    let list = c.in_ok-list.list in
    let places = places_in (latches_at s.course) (length s.course.steps) in
    let is : list.items ≡ places = c.in_ok-list.ensures.places in
    let count : c.len-2.result ≡ length places = omega (arith, c.len-2.ensures, list.ok.0, ap (λ (ps : List Place). length ps) is) in
    let alike : AreAlikePairs s.groups s.rows (length places) (length places) =
    subst (λ (n : ℕ). AreAlikePairs s.groups s.rows n n) count
    (subst (λ (gs : List Group). AreAlikePairs gs s.rows c.len-2.result c.len-2.result) c.as_slice-groups.ensures.items
    (subst (λ (rs : List Row). AreAlikePairs c.as_slice-groups.result.now rs c.len-2.result c.len-2.result) c.as_slice.ensures.items
    (subst (λ (o : Option Pair). IsFoundAmong c.as_slice-groups.result.now c.as_slice.result.now c.len-2.result o) c.in-None.is c.in_ok-pair.ensures.found))) in
    record {
      certified = λ T worlds ok survey by_one.
          let few : AreFewPairs T worlds c.args.places = record {
            by_one = by_one;
            few = subst (λ (n : ℕ). n * c.args.places * c.args.places ≤ 50000000) (c.len.ensures.length ∙ survey.rows.each.count) c.if-product-gt50000000.false;
          } in
          (few, secure-two T worlds ok s survey by_one.1 alike);
    }
