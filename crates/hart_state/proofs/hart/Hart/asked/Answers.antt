-- No step in user mode asks.
use Rattle.std.proofs.Common.{None, ap, subst, ◌∙◌}
use Rattle.hart_model.specs.declared.tag.Mode.{Mode}
use Rattle.hart_model.specs.HartState.{HartState}
use Rattle.hart_model.specs.HartStep.{step_by_mode}
use Rattle.hart_state.specs.Asked.{HasAsked}
use Rattle.hart_state.proofs.Asking.{user-none}
use Rattle.hart_state.proofs.hart.Hart.asked.Goals as goal

pub returns-in-User : goal.returns-in-User
returns-in-User c =
    let h = c.args.self.now in
    let mode = c.in-User.ensures.mode ∙ ap (λ (x : HartState). x.csrs.mode) c.self.view_is in
    record { asked = subst (λ (m : Mode). HasAsked h (step_by_mode c.args.code.now h m) None) mode (user-none h) }
