-- The places of one step more.
use Rattle.std.proofs.Common.{◌≡◌, ◌++◌, ◌<◌, List, length, map, sym, ap, ◌∙◌, arith}
use Rattle.isa_model.specs.declared.latch.Latch.{Latch}
use Rattle.probe_inspect.specs.declared.course.Passed.{Passed}
use Rattle.probe_inspect.specs.Course.{latches_at}
use Rattle.probe_inspect.proofs.Along.{latches-there, read-of}
use Rattle.probe_order.specs.Places.{place_of, places_in}
use Rattle.probe_order.specs.declared.places.Place.{Place}
use Rattle.probe_order.proofs.PlaceNumbers.{in-none, in-more}
use Rattle.probe_order.proofs.places.places_of.Goals as goal

pub loop-step-init : goal.loop-step-init
loop-step-init c = c.in_ok-places.ensures.items ∙ sym (in-none (latches_at c.args.course.now))

pub loop-step-preserved : goal.loop-step-preserved
loop-step-preserved c =
    let course = c.args.course.now in
    let steps = course.steps in
    let n = c.loop-step.step in
    let passed = c.index-steps-step.result in
    let long = ap (λ (xs : List Passed). length xs) c.as_slice-steps.ensures.items in
    let low : n < length steps = omega (arith, c.loop-step-test.true, long) in
    let there = read-of c.as_slice-steps.result.now steps n passed c.as_slice-steps.ensures.items c.loop-step-test.true c.index-steps-step.is in
    let ls = c.as_slice.result.now in
    let lat : ls ≡ latches_at course n = c.as_slice.ensures.items ∙ ap (λ (p : Passed). p.latches) (sym c.index-steps-step.is) ∙ sym (latches-there course n passed there) in
    c.in_ok-add_places.ensures.added
    ∙ ap (λ (ps : List Place). ps ++ map (place_of n) ls) c.loop-step.invariant
    ∙ ap (λ (ks : List Latch). places_in (latches_at course) n ++ map (place_of n) ks) lat
    ∙ sym (in-more (latches_at course) n)
