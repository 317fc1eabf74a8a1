-- A tick is the event, and keeps the core.
use Rattle.std.proofs.Common.{◌<◌, sym, subst, length}
use Rattle.core_model.specs.declared.event.Event.TheVariants as events
use Rattle.kernel_core.specs.Running.{RunValue, IsAfterEvent}
use Rattle.kernel_core.proofs.RunAfter.{index-is, with_board_and_hart, after-tick-of, kept-tick}
use Rattle.kernel_core.proofs.run.Run.tick.Goals as goal

pub invariant_of-self : goal.invariant_of-self
invariant_of-self c =
    let r : RunValue = record { board = c.self.inside.board; harts = c.self.inside.harts.items; kernel = c.self.inside.kernel; actions = c.self.inside.actions } in
    let low = subst (λ (v : RunValue). c.args.number < length v.harts) (sym c.self.view_is) c.requires.hart in
    let is = index-is r.harts c.args.number c.index_mut.result.now low c.index_mut.ensures.value in
    (c.self.invariant.0, kept-tick r c.args.number c.index_mut.result.now is c.tick.new.self c.tick.ensures.hart c.self.invariant.0 c.self.invariant.1)

pub returns : goal.returns
returns c =
    let r : RunValue = record { board = c.self.inside.board; harts = c.self.inside.harts.items; kernel = c.self.inside.kernel; actions = c.self.inside.actions } in
    let low = subst (λ (v : RunValue). c.args.number < length v.harts) (sym c.self.view_is) c.requires.hart in
    let is = index-is r.harts c.args.number c.index_mut.result.now low c.index_mut.ensures.value in
    let P : RunValue → Type 0 = λ v. IsAfterEvent v (with_board_and_hart r r.board c.args.number c.tick.new.self) (events.Tick c.args.number) in
    record { after = subst P c.self.view_is (after-tick-of r c.args.number c.index_mut.result.now is c.tick.new.self c.tick.ensures.hart) }
