-- The latches of an instruction are its writes' in order, or the register of its service.
use Rattle.std.proofs.Common.{◌≡◌, List, ◌++◌, Some, None, ap, ◌∙◌}
use Rattle.isa_model.specs.declared.latch.Latch.{Latch}
use Rattle.isa_model.specs.declared.task.Task.{Task}
use Rattle.isa_model.specs.Control.{control_at}
use Rattle.core_model.specs.Places.{served_latches}
use Rattle.probe_inspect.specs.declared.course.Passed.{Passed}
use Rattle.probe_inspect.specs.LatchList.{latches_in_order}
use Rattle.probe_inspect.proofs.Passing.{passed-is}
use Rattle.probe_inspect.proofs.course.pass.Goals as goal
use Rattle.probe_inspect.proofs.course.pass.Goals.{in-Some+in_ok-add_latches, in_default}

pub returns-clause-passed : goal.returns-clause-passed
returns-clause-passed c =
    let T = c.args.task.now in
    let n = c.args.alone.now.count in
    let same = c.requires.task in
    let some = c.in-Some-step.ensures.some in
    let control : c.in-Some-step.control ≡ control_at T n = some.0 ∙ ap (λ (t : Task). control_at t n) same in
    let added = c.new.ensures.items ∙ c.in_ok-add_served-in-Some-step.ensures.added in
    let passed : Passed = record { control = c.in-Some-step.control; latches = c.new.result } in
    let put = λ (ls : List Latch). ls ++ served_latches c.in-Some-step.control.deed in
    elim c.match-next_writes.branch [
      | in-Some+in_ok-add_latches w ↦
          passed-is T n (Some w.in-Some.writes) passed w.in-Some.ensures.writes w.in_ok-add_latches.ensures.number c.requires.running control
          (added ∙ ap (λ v. put v.items) w.latches-is ∙ ap put (w.in_ok-add_latches.ensures.added ∙ ap (λ (ls : List Latch). ls ++ latches_in_order w.in-Some.writes) c.new-latches.ensures.items))
      | in_default w ↦
          passed-is T n None passed w.in_default.ensures.writes tt c.requires.running control
          (added ∙ ap (λ v. put v.items) w.latches-is ∙ ap put c.new-latches.ensures.items)
    ]
