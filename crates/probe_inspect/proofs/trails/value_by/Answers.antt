-- The marks of a task that is there are there, and are its.
use Rattle.std.proofs.Common.{◌≡◌, ℕ, ◌∙◌, Some, slice_get, sym, ap, subst}
use Rattle.std.proofs.lemmas.Bool.{ltb-true}
use Rattle.isa_model.specs.AloneValue.{alone_value}
use Rattle.probe_inspect.specs.Reached.{IsAfter}
use Rattle.probe_inspect.specs.Trails.{IsTrailOf}
use Rattle.probe_inspect.specs.Shown.{value_shown_of}
use Rattle.probe_inspect.specs.declared.shown.Shown.TheVariants.{Value}
use Rattle.probe_inspect.proofs.Reached.{value_after}
use Rattle.probe_inspect.proofs.Marked.{read-at, zipped, zipped-within}
use Rattle.probe_inspect.proofs.trails.value_by.Goals as goal

pub bounds-trails-number : goal.bounds-trails-number
bounds-trails-number c =
    let T = c.in-Some.task.now in
    let found : slice_get c.args.tasks.now c.args.number ≡ Some T = read-at _ _ T (ltb-true _ _ (sym c.in-Some.ensures.lookup.0)) c.in-Some.ensures.lookup.1 in
    zipped-within IsTrailOf c.args.tasks.now c.args.trails.now c.args.number T c.requires.trails found

pub run_at-requires : goal.run_at-requires
run_at-requires c =
    let T = c.in-Some.task.now in
    let found : slice_get c.args.tasks.now c.args.number ≡ Some T = read-at _ _ T (ltb-true _ _ (sym c.in-Some.ensures.lookup.0)) c.in-Some.ensures.lookup.1 in
    let low = zipped-within IsTrailOf c.args.tasks.now c.args.trails.now c.args.number T c.requires.trails found in
    let t = c.index-trails-number.result in
    let is : slice_get c.args.trails.now c.args.number ≡ Some t = read-at _ _ t low c.index-trails-number.is in
    record { trail = zipped IsTrailOf c.args.tasks.now c.args.trails.now c.args.number T t c.requires.trails found is }

pub returns : goal.returns
returns c =
    let T = c.in-Some.task.now in
    let n = c.args.count in
    let l = c.args.latch in
    let m = c.in_ok-alone.alone in
    let found : slice_get c.args.tasks.now c.args.number ≡ Some T = read-at _ _ T (ltb-true _ _ (sym c.in-Some.ensures.lookup.0)) c.in-Some.ensures.lookup.1 in
    let after : IsAfter T n m = subst (λ (k : ℕ). IsAfter T k m) c.from.ensures c.in_ok-alone.ensures.after in
    let value : c.value.result ≡ alone_value T n l = value_after T n m l _ after c.value.ensures.value in
    record { value = ap Value value ∙ sym (ap (λ o. value_shown_of o n l) found) }
