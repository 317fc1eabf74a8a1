-- One instruction more.
use Rattle.std.proofs.Common.{◌≡◌, ◌+◌, List, [], ◌∷◌, length, length-append, slice_get, sym, ap, ◌∙◌, subst, arith, ◌++◌, Some, IsSome, Option}
use Rattle.isa_model.specs.declared.ends.End.{End}
use Rattle.isa_model.specs.Alone.{alone_at}
use Rattle.probe_inspect.specs.declared.course.Course.{Course}
use Rattle.probe_inspect.specs.declared.course.Passed.{Passed}
use Rattle.probe_inspect.specs.Course.{IsPassed, IsEndAt, IsCourseOf, latches_in, places_before}
use Rattle.probe_inspect.proofs.Along.{each-push, at-place}
use Rattle.probe_inspect.proofs.Places.{places-none, places-push}
use Rattle.probe_inspect.proofs.course.course_of.Goals as goal

pub loop-alloc-init : goal.loop-alloc-init
loop-alloc-init c =
    let start = c.in_ok-alone.ensures.start in
    let items = c.new-steps.ensures.items in
    let count : c.in_ok-alone.alone.count ≡ 0 = ap (λ a. a.count) start in
    let none : length c.new-steps.result.items ≡ 0 = ap (λ (xs : List Passed). length xs) items in
    let places : places_before (latches_in c.new-steps.result.items) (length c.new-steps.result.items) ≡ 0 =
    ap (λ (xs : List Passed). places_before (latches_in xs) (length xs)) items ∙ places-none (latches_in []) in
    record {
      task = ap (λ a. a.task) start;
      count = omega (arith, count, none);
      steps = λ n passed is.
          let gone : slice_get {X = Passed} [] n ≡ Some passed = ap (λ (xs : List Passed). slice_get xs n) (sym items) ∙ is in absurd cc;
      within = omega (arith, count);
      places = sym places;
      few = omega arith;
    }

pub loop-alloc-preserved : goal.loop-alloc-preserved
loop-alloc-preserved c =
    let T = c.args.task.now in
    let inv = c.loop-alloc.invariant in
    let steps = c.loop-alloc.steps.items in
    let passed = c.in_ok-passed.passed in
    let next = c.in_ok-passed.ensures.next in
    let count : c.pass.new.alone.count ≡ c.loop-alloc.alone.count + 1 = ap (λ a. a.count) next in
    let items = c.in_ok-push.ensures.items in
    let more = length-append steps (passed ∷ []) in
    let long : length c.push.new.self.items ≡ length steps + 1 = ap (λ (xs : List Passed). length xs) items ∙ more in
    let here : IsPassed T (length steps) passed = subst (λ k. IsPassed T k passed) inv.count c.in_ok-passed.ensures.passed in
    let within = c.in_ok-passed.ensures.within in
    let len : c.len-places.result ≡ length passed.latches = c.len-places.ensures.length in
    let few = here.few in
    let pushed = places-push steps passed in
    let at : places_before (latches_in c.push.new.self.items) (length c.push.new.self.items)
    ≡ places_before (latches_in (steps ++ passed ∷ [])) (length steps + 1) =
    ap (λ (xs : List Passed). places_before (latches_in xs) (length c.push.new.self.items)) items
    ∙ ap (places_before (latches_in (steps ++ passed ∷ []))) long in
    record {
      task = ap (λ a. a.task) next;
      count = omega (arith, count, long, inv.count);
      steps = λ n other is. each-push (IsPassed T) steps passed inv.steps here n other (ap (λ (xs : List Passed). slice_get xs n) (sym items) ∙ is);
      within = omega (arith, count, within);
      places = omega (arith, inv.places, len, pushed, at);
      few = omega (arith, inv.few, len, few, count);
    }

pub returns : goal.returns
returns c =
    let T = c.args.task.now in
    let inv = c.loop-alloc.invariant in
    let alone = c.loop-alloc.alone in
    let items = c.loop-alloc.steps.items in
    let is : c.ended.result ≡ (alone_at alone.task alone.count).end = c.ended.ensures.end in
    let some : IsSome (alone_at alone.task alone.count).end = subst (λ (o : Option End). IsSome o) is c.loop-alloc-test.ensures in
    let end : IsEndAt T (length items) c.pc-last_pc.result =
    at-place (λ U n. IsEndAt U n c.pc-last_pc.result) alone T (length items) inv.task inv.count
    (record { ended = some; pc = sym c.pc-last_pc.ensures.pc }) in
    let course : List Passed → Course = λ steps. record { steps = steps; places = c.loop-alloc.places; last_pc = c.pc-last_pc.result } in
    let within = inv.within in
    let count = inv.count in
    let own : IsCourseOf T (course items) = record {
      steps = inv.steps;
      within = omega (arith, within, count);
      places = inv.places;
      end = end;
    } in
    record { course = subst (λ (steps : List Passed). IsCourseOf T (course steps)) (sym c.new.ensures.items) own }
