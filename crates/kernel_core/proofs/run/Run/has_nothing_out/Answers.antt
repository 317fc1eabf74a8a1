-- Nothing is out exactly where no hart holds a context.
use Rattle.std.proofs.Common.{◌≡◌, [], IsTrue, ◌↔◌, subst}
use Rattle.kernel_core.specs.Running.{RunValue}
use Rattle.kernel_core.proofs.Parting.{nothing-out}
use Rattle.kernel_core.proofs.run.Run.has_nothing_out.Goals as goal

pub returns : goal.returns
returns c =
    let r : RunValue = record { board = c.self.inside.board; harts = c.self.inside.harts.items; kernel = c.self.inside.kernel; actions = c.self.inside.actions } in
    let none = nothing-out r c.self.invariant.0 c.self.invariant.1 c.as_slice.result.now c.as_slice.ensures.value in
    let test = c.hold_nothing.ensures.test in
    let P : RunValue → Type 0 = λ v. IsTrue c.hold_nothing.result ↔ (v.board.lists.out ≡ []) in
    record { test = subst P c.self.view_is ((λ yes. none.0 (test.0 yes)), (λ empty. test.1 (none.1 empty))) }
