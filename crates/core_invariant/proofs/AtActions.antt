-- Where a hart stands that comes to a queue action.
use Rattle.std.proofs.Common.{◌≡◌, ℕ, ◌+◌, ◌*◌, inl, inr, List, sym, ◌∙◌}
use Rattle.isa_model.specs.declared.task.Task.{Task}
use Rattle.hart_model.specs.declared.calls.QueueCall.TheVariants.{Take, GiveReady, GiveDone}
use Rattle.hart_model.specs.Context.{ContextState}
use Rattle.hart_model.specs.HartState.{HartState}
use Rattle.hart_model.specs.Writes.{CellWrite}
use Rattle.hart_model.specs.StepResult.{Wants}
use Rattle.hart_model.specs.HartStep.{hart_step}
use Rattle.core_invariant.specs.KernelStates.{KernelParts, IsKernel, middle_at, give_ready_index, give_done_index, take_index}
use Rattle.core_invariant.specs.CutPoints.{IsAtCutPoint, IsEmptyHanded, IsGivingReady, IsGivingDone}
use Rattle.core_invariant.proofs.UserSteps.{user-step-leads}
use Rattle.core_invariant.proofs.Gives.{wants-give-ready, wants-give-done}
use Rattle.core_invariant.proofs.Takes.{wants-take}
use Rattle.core_invariant.proofs.Idle.{idles}

-- At a cut point it is the take or the give that the action is of.
module _ (k : KernelParts) (kernel : IsKernel k) (tasks : List Task) (number : ℕ) (h : HartState) (early_writes : List CellWrite) (rd next : ℕ) where
  pub takes-at : IsAtCutPoint tasks k number h → hart_step k.code.words h ≡ Wants Take early_writes rd next
      → IsEmptyHanded tasks number (middle_at k + 4 * take_index) h
  takes-at (inl user) e = let on = user-step-leads tasks number k.code.words h user.0 user.1 in absurd (cc (sym e ∙ on.step))
  takes-at (inr (inl ready)) e = absurd (cc (sym e ∙ wants-give-ready k kernel.linked tasks number h ready.0 ready.1))
  takes-at (inr (inr (inl ended))) e = absurd (cc (sym e ∙ wants-give-done k kernel.linked tasks number h ended.0 ended.1))
  takes-at (inr (inr (inr (inl takes)))) e = takes
  takes-at (inr (inr (inr (inr idle)))) e = let on = idles k kernel.linked tasks number h idle in absurd (cc (sym e ∙ on.step_is))

  pub gives-ready-at : IsAtCutPoint tasks k number h → hart_step k.code.words h ≡ Wants GiveReady early_writes rd next
      → ((c : ContextState) × IsGivingReady tasks number (middle_at k + 4 * give_ready_index) h c)
  gives-ready-at (inl user) e = let on = user-step-leads tasks number k.code.words h user.0 user.1 in absurd (cc (sym e ∙ on.step))
  gives-ready-at (inr (inl ready)) e = ready
  gives-ready-at (inr (inr (inl ended))) e = absurd (cc (sym e ∙ wants-give-done k kernel.linked tasks number h ended.0 ended.1))
  gives-ready-at (inr (inr (inr (inl takes)))) e = absurd (cc (sym e ∙ wants-take k kernel.linked tasks number h takes))
  gives-ready-at (inr (inr (inr (inr idle)))) e = let on = idles k kernel.linked tasks number h idle in absurd (cc (sym e ∙ on.step_is))

  pub gives-done-at : IsAtCutPoint tasks k number h → hart_step k.code.words h ≡ Wants GiveDone early_writes rd next
      → ((c : ContextState) × IsGivingDone tasks number (middle_at k + 4 * give_done_index) h c)
  gives-done-at (inl user) e = let on = user-step-leads tasks number k.code.words h user.0 user.1 in absurd (cc (sym e ∙ on.step))
  gives-done-at (inr (inl ready)) e = absurd (cc (sym e ∙ wants-give-ready k kernel.linked tasks number h ready.0 ready.1))
  gives-done-at (inr (inr (inl ended))) e = ended
  gives-done-at (inr (inr (inr (inl takes)))) e = absurd (cc (sym e ∙ wants-take k kernel.linked tasks number h takes))
  gives-done-at (inr (inr (inr (inr idle)))) e = let on = idles k kernel.linked tasks number h idle in absurd (cc (sym e ∙ on.step_is))
