-- The mark is one of the task, and not after what is asked for.
use Rattle.std.proofs.Common.{◌≡◌, ◌<◌, ◌*◌, ◌∙◌, Some, slice_get, length, sym, ap, arith}
use Rattle.probe_inspect.proofs.Marked.{marked, read-at}
use Rattle.probe_inspect.proofs.trails.Trail.run_at.Goals as goal

pub resume-requires : goal.resume-requires
resume-requires c =
    let marks = c.self.inside.marks in
    let index = c.min-index.result in
    let m = c.index.result.now in
    let view = ap length c.self.view_is in
    let some = c.requires.trail.some in
    let low : index < length marks.items = omega (arith, marks.ok.0) in
    let at : slice_get c.args.self.now index ≡ Some m = ap (λ l. slice_get l index) (sym c.self.view_is) ∙ read-at marks.items index m low c.index.ensures in
    record { mark = marked c.args.task.now (256 * index) m (c.requires.trail.each index m at) }

pub run_to-requires : goal.run_to-requires
run_to-requires c =
    let marks = c.self.inside.marks in
    let index = c.min-index.result in
    let m = c.index.result.now in
    let view = ap length c.self.view_is in
    let some = c.requires.trail.some in
    let low : index < length marks.items = omega (arith, marks.ok.0) in
    let at : slice_get c.args.self.now index ≡ Some m = ap (λ l. slice_get l index) (sym c.self.view_is) ∙ read-at marks.items index m low c.index.ensures in
    let count : m.count ≡ 256 * index = (c.requires.trail.each index m at).count in
    let resumed : c.in_ok-alone.alone.count ≡ m.count = ap (λ a. a.count) c.in_ok-alone.ensures.resumed in
    record { before = omega arith }
