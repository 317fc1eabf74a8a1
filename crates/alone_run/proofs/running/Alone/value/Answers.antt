-- A latch that the task hasn't is 0.
use Rattle.std.proofs.Common.{◌≡◌, ◌∙◌, ap, false}
use Rattle.alone_run.specs.LatchValues.{has_latch}
use Rattle.alone_run.specs.RunPosition.{RunPosition}
use Rattle.alone_run.proofs.Absent.{value-absent}
use Rattle.alone_run.proofs.running.Alone.value.Goals as goal

pub returns-clause-absent : goal.returns-clause-absent
returns-clause-absent c absent =
    let inside = c.self.inside in
    let absent' : has_latch inside.task c.args.latch ≡ false = ap (λ (m : RunPosition). has_latch m.task c.args.latch) c.self.view_is ∙ absent in
    c.value.ensures.value ∙ value-absent inside.task inside.machine.latches _ c.args.latch c.self.invariant.stands.latches absent'
