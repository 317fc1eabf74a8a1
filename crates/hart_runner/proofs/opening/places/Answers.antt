-- One place more, with the pace of its plan and its pass.
use Rattle.std.proofs.Common.{Some, None, slice_get, rules, arith, ◌≡◌, ℕ, suc, ◌+◌, ◌<◌, ◌∷◌, length, sym, ap, ◌∙◌, subst}
use Rattle.std.specs.Vec.Iter.{into_iter_items}
use Rattle.core_model.specs.declared.plan.Plan.{Plan}
use Rattle.core_model.specs.declared.loaded.Loaded.{Loaded}
use Rattle.core_model.specs.Orders.{plan_at}
use Rattle.timer_plan.specs.Pace.{pace_of}
use Rattle.turn_lock.specs.Passes.{IsNewPass}
use Rattle.hart_runner.specs.declared.place.Place.{Place}
use Rattle.hart_runner.specs.Places.{AreReadyPlaces, IsReadyPlace}
use Rattle.hart_runner.proofs.Lookups.{plan-is}
use Rattle.hart_runner.proofs.Pushed.{each-push}
use Rattle.hart_runner.proofs.opening.places.Goals as goal

pub loop-pass-preserved : goal.loop-pass-preserved
loop-pass-preserved c =
    let inv = c.loop-pass.invariant in
    let lock = c.args.lock.now in
    let pass = c.in-Some.pass in
    let number = c.loop-pass.number in
    let steps : into_iter_items c.loop-pass.pass-iterator ≡ pass ∷ into_iter_items c.next.new.self = c.in-Some.ensures.steps.0 in
    let short = ap length steps in
    let left = inv.left in
    let whole = inv.whole in
    let gone = c.in-Some.ensures.steps.1 in
    let count = inv.count in
    let room = inv.room in
    let ok = c.loop-pass.places.ok in
    let push = c.push_reserved.ensures in
    let all = c.requires.count in
    let start : number + 0 ≡ number = omega arith in
    let low : number < c.args.loaded.now.harts = omega arith in
    let new : IsNewPass lock number pass = subst (λ n. IsNewPass lock n pass) start (inv.new 0 pass (ap (λ xs. slice_get xs 0) steps)) in
    let plan = plan-is c.args.loaded.now c.requires.loaded c.as_slice-plans.result.now c.as_slice-plans.ensures.items number c.index-plans-number.result
    low c.index-plans-number.is in
    let pace = c.new-pace.ensures.pace
    ∙ ap (λ (p : Plan). pace_of p 0 0) (c.in_ok-copy.ensures.same ∙ plan)
    ∙ ap (λ (l : Loaded). pace_of (plan_at l.plans number) 0 0) (sym c.requires.frame) in
    let place : Place = record { number = number; start = Some (record { pace = c.new-pace.result; pass = pass }); ended = None } in
    let P : ℕ → Place → Type 0 = λ i p. (p.number ≡ i) × IsReadyPlace lock p in
    let made = each-push P c.loop-pass.places.items place inv.made ((omega arith), record { pass = new; pace = pace }) in
    record {
      left = omega arith;
      whole = omega arith;
      count = search rules;
      room = search rules;
      new = λ i p e. (let here : number + suc i ≡ number + 1 + i = omega arith in
          subst (λ n. IsNewPass lock n p) here (inv.new (suc i) p (ap (λ xs. slice_get xs (suc i)) steps ∙ e)));
      made = subst (AreReadyPlaces lock) (sym push.items) made;
    }
