-- Each hart stays on its way, whatever it does: the ways through the kernel's code, joined.
use Rattle.std.proofs.Common.{◌≡◌, ℕ, ◌+◌, ◌*◌, ◌==◌, Bool, true, false, List, [], ◌∷◌, inl, inr, length, slice_get, nat_lt, Option, Some, None, refl, sym, ap, subst, ◌∙◌, eqb-true}
use Rattle.std.proofs.lemmas.Bool.{eqb-false}
use Rattle.isa_model.specs.declared.task.Task.{Task}
use Rattle.isa_model.specs.declared.latch.Latch.TheVariants as latches
use Rattle.isa_model.specs.Alone.{alone_at}
use Rattle.isa_model.specs.AloneValue.{alone_value}
use Rattle.hart_model.specs.declared.calls.Did.{Did}
use Rattle.hart_model.specs.declared.calls.QueueCall.{QueueCall}
use Rattle.hart_model.specs.declared.calls.QueueCall.TheVariants.{Take, GiveReady, GiveDone}
use Rattle.hart_model.specs.declared.probe.Probe.{Probe}
use Rattle.hart_model.specs.Context.{ContextState, task_of}
use Rattle.hart_model.specs.HartState.{HartState}
use Rattle.hart_model.specs.Writes.{CellWrite}
use Rattle.hart_model.specs.StepResult.{StepResult, Steps, Wants, Wedged}
use Rattle.hart_model.specs.HartStep.{hart_step}
use Rattle.core_model.specs.Board.{OutEntry, out_entry}
use Rattle.core_model.specs.Soundness.{entries_held}
use Rattle.symbolic_run.specs.Laws.{PathsLead}
use Rattle.symbolic_run.specs.Ways.{GoesOnTo}
use Rattle.symbolic_run.proofs.Ways.{leads-map, leads-first, holds-entries}
use Rattle.core_invariant.specs.KernelStates.{KernelParts, IsKernel, middle_at, give_ready_index, give_done_index, take_index}
use Rattle.core_model.specs.Routines.{IsUserState}
use Rattle.core_invariant.specs.CutPoints.{IsCallTrap, IsGivingReady, IsGivingDone, IsEmptyHanded, IsAtCutPoint, IsOnItsWay}
use Rattle.core_invariant.specs.UserLeads.{IsUserOutcome, UserStepLeads}
use Rattle.core_invariant.specs.OneHart.{IsKept, GivesReady, GivesDone, EachHart}
use Rattle.core_invariant.proofs.UserSteps.{user-step-leads}
use Rattle.core_invariant.proofs.ReadyTimer.{LeadsToReady, timer-leads}
use Rattle.core_invariant.proofs.ReadyYield.{yield-leads}
use Rattle.core_invariant.proofs.ReadyOut.{out-leads}
use Rattle.core_invariant.proofs.ReadyIn.{in-leads}
use Rattle.core_invariant.proofs.DoneEnds.{LeadsToDone}
use Rattle.core_invariant.proofs.DoneLeads.{fuel-leads, fault-leads, exit-leads, out-full-leads, tape-end-leads, bad-call-leads}
use Rattle.core_invariant.proofs.Gives.{wants-give-ready, wants-give-done}
use Rattle.core_invariant.proofs.Takes.{wants-take}
use Rattle.core_invariant.proofs.QueueAnswers.{kept-as, takes-kept, gives-ready-kept, gives-done-kept, idle-step}
use Rattle.core_invariant.proofs.Idle.{idles}
use Rattle.core_invariant.proofs.AtActions.{takes-at, gives-ready-at, gives-done-at}
use Rattle.core_invariant.proofs.AtStart.{way-sound, way-tick, boots}

module _ (k : KernelParts) (kernel : IsKernel k) (paths-lead : PathsLead) (tasks : List Task) (number : ℕ) where
  abbrev Way : HartState → Type 0
  Way h = IsOnItsWay tasks k number h

  -- on the way to a give
  ready-way : (h : HartState) → LeadsToReady tasks k number h → Way h
  ready-way h w = (
    w.0,
    leads-map tasks k.code.words number w.0 (λ g. (d : ContextState) × IsGivingReady tasks number (middle_at k + 4 * give_ready_index) g d)
        (IsAtCutPoint tasks k number) h
        (λ g there. inr (inl there)) w.1,
  )

  done-way : (h : HartState) → LeadsToDone tasks k number h → Way h
  done-way h w = (
    w.0,
    leads-map tasks k.code.words number w.0 (λ g. (d : ContextState) × IsGivingDone tasks number (middle_at k + 4 * give_done_index) g d)
        (IsAtCutPoint tasks k number) h
        (λ g there. inr (inr (inl there))) w.1,
  )

  -- A task that calls a service, by the service.
  module _ (n : ℕ) (h : HartState) (c : ContextState) (call : IsCallTrap tasks number n h c) where
    abbrev a7 : ℕ
    a7 = alone_value (task_of c.body) n (latches.Reg 17)

    out-way : (room : Bool) → nat_lt (length (alone_at (task_of c.body) n).output) c.body.out_max ≡ room → a7 ≡ 1 → Way h
    out-way true e is = ready-way h (out-leads k kernel paths-lead tasks number n h c call is e)
    out-way false e is = done-way h (out-full-leads paths-lead k kernel call is e)

    in-way : (word : Option ℕ) → slice_get c.body.tape (alone_at (task_of c.body) n).tape_at ≡ word → a7 ≡ 2 → Way h
    in-way (Some word) e is = ready-way h (in-leads k kernel paths-lead tasks number n h c word call is e)
    in-way None e is = done-way h (tape-end-leads paths-lead k kernel call is e)

    call-way : (zero one two three : Bool) → (a7 == 0) ≡ zero → (a7 == 1) ≡ one → (a7 == 2) ≡ two → (a7 == 3) ≡ three → Way h
    call-way true one two three e f g i = done-way h (exit-leads paths-lead k kernel call (eqb-true a7 0 e))
    call-way false true two three e f g i = out-way (nat_lt (length (alone_at (task_of c.body) n).output) c.body.out_max) refl (eqb-true a7 1 f)
    call-way false false true three e f g i = in-way (slice_get c.body.tape (alone_at (task_of c.body) n).tape_at) refl (eqb-true a7 2 g)
    call-way false false false true e f g i = ready-way h (yield-leads k kernel paths-lead tasks number n h c call (eqb-true a7 3 i))
    call-way false false false false e f g i =
        done-way h (bad-call-leads paths-lead k kernel call (eqb-false a7 0 e) (eqb-false a7 1 f) (eqb-false a7 2 g) (eqb-false a7 3 i))

  -- after each step in user mode
  outcome-way : (h : HartState) (c : ContextState) → IsUserOutcome tasks number h c → Way h
  outcome-way h c (inl user) = (0, inl (c, user))
  outcome-way h c (inr (inl timer)) = ready-way h (timer-leads k kernel paths-lead tasks number h c timer)
  outcome-way h c (inr (inr (inl fuel))) = done-way h (fuel-leads paths-lead k kernel fuel)
  outcome-way h c (inr (inr (inr (inl fault)))) = done-way h (fault-leads paths-lead k kernel fault.2)
  outcome-way h c (inr (inr (inr (inr call)))) =
      call-way call.0 h c call.1 (a7 call.0 h c call.1 == 0) (a7 call.0 h c call.1 == 1)
      (a7 call.0 h c call.1 == 2) (a7 call.0 h c call.1 == 3) refl refl refl refl

  -- what is out of a hart in user mode stays out
  user-entries : (h : HartState) (c : ContextState) (held : h.held ≡ Some c) (step : UserStepLeads tasks k.code.words number h c) →
      entries_held number step.hart.held ≡ entries_held number h.held
  user-entries h c held step =
      let E : Option ContextState → List OutEntry = λ o. entries_held number o in
      ap E step.held ∙ entry ∙ ap E (sym held)
    where
      entry : out_entry number step.context ∷ [] ≡ out_entry number c ∷ []
      entry = rw (step.task_no, step.slot) refl

  -- a step that goes on
  user-kept : (h g : HartState) (probes : List Probe) (did : Did) → ((c : ContextState) × IsUserState tasks number h c)
      → hart_step k.code.words h ≡ Steps g probes did
      → IsKept tasks k number (entries_held number h.held) (record { hart = g; probes = probes })
  user-kept h g probes did at e =
      let step = user-step-leads tasks number k.code.words h at.0 at.1 in
      kept-as (hart_step k.code.words h) step.hart g step.probes probes step.did did step.step e (record {
        hart = outcome-way step.hart step.context step.outcome;
        explained = step.explained;
        holds = user-entries h at.0 at.1.user.held step;
      })

  start-steps : (h g : HartState) (probes : List Probe) (did : Did) → IsAtCutPoint tasks k number h → hart_step k.code.words h ≡ Steps g probes did
      → IsKept tasks k number (entries_held number h.held) (record { hart = g; probes = probes })
  start-steps h g probes did (inl user) e = user-kept h g probes did user e
  start-steps h g probes did (inr (inl ready)) e = absurd (cc (sym e ∙ wants-give-ready k kernel.linked tasks number h ready.0 ready.1))
  start-steps h g probes did (inr (inr (inl ended))) e = absurd (cc (sym e ∙ wants-give-done k kernel.linked tasks number h ended.0 ended.1))
  start-steps h g probes did (inr (inr (inr (inl takes)))) e = absurd (cc (sym e ∙ wants-take k kernel.linked tasks number h takes))
  start-steps h g probes did (inr (inr (inr (inr idle)))) e =
      let O : List OutEntry → Type 0 = λ out. IsKept tasks k number out (record { hart = g; probes = probes }) in
      subst O (ap (λ (o : Option ContextState). entries_held number o) (sym idle.held)) (idle-step k kernel tasks number h g probes did idle e)

  way-steps : (h g : HartState) (probes : List Probe) (did : Did) → GoesOnTo tasks h Way (hart_step k.code.words h)
      → hart_step k.code.words h ≡ Steps g probes did
      → IsKept tasks k number (entries_held number h.held) (record { hart = g; probes = probes })
  way-steps h g probes did goes e =
      kept-as (hart_step k.code.words h) goes.after g goes.probes probes goes.did did goes.step_is e (record {
        hart = goes.there;
        explained = goes.explained;
        holds = holds-entries number h.held goes.after.held goes.holds;
      })

  -- A hart on its way that does not go on with its next step is at a start.
  at-start : (h : HartState) → Way h → (step : StepResult) → hart_step k.code.words h ≡ step
      → ((g : HartState) (probes : List Probe) (did : Did) → step ≡ Steps g probes did → ⊥) → IsAtCutPoint tasks k number h
  at-start h way step e never =
      elim (leads-first tasks k.code.words number way.0 (IsAtCutPoint tasks k number) h way.1) [
        | inl there ↦ there
        | inr goes ↦ let on = goes.1 false in absurd (never on.after on.probes on.did (sym e ∙ on.step_is))
      ]

  steps-kept : (h g : HartState) (probes : List Probe) (did : Did) → Way h → hart_step k.code.words h ≡ Steps g probes did
      → IsKept tasks k number (entries_held number h.held) (record { hart = g; probes = probes })
  steps-kept h g probes did way e =
      elim (leads-first tasks k.code.words number way.0 (IsAtCutPoint tasks k number) h way.1) [
        | inl there ↦ start-steps h g probes did there e
        | inr goes ↦ way-steps h g probes did (goes.1 false) e
      ]

  module _ (h : HartState) (early_writes : List CellWrite) (rd next : ℕ) where
    wants-only : (call : QueueCall) (g : HartState) (probes : List Probe) (did : Did) → Wants call early_writes rd next ≡ Steps g probes did → ⊥
    wants-only call g probes did e = cc e

    take-start : Way h → hart_step k.code.words h ≡ Wants Take early_writes rd next → IsEmptyHanded tasks number (middle_at k + 4 * take_index) h
    take-start way e = takes-at k kernel tasks number h early_writes rd next (at-start h way (Wants Take early_writes rd next) e (wants-only Take)) e

    kept-gives-ready : Way h → hart_step k.code.words h ≡ Wants GiveReady early_writes rd next → GivesReady tasks k number h early_writes next
    kept-gives-ready way e =
        let at = gives-ready-at k kernel tasks number h early_writes rd next (at-start h way (Wants GiveReady early_writes rd next) e (wants-only GiveReady)) e in
        gives-ready-kept k kernel tasks number h at.0 early_writes rd next at.1 e

    kept-gives-done : Way h → hart_step k.code.words h ≡ Wants GiveDone early_writes rd next → GivesDone tasks k number h early_writes next
    kept-gives-done way e =
        let at = gives-done-at k kernel tasks number h early_writes rd next (at-start h way (Wants GiveDone early_writes rd next) e (wants-only GiveDone)) e in
        gives-done-kept k kernel tasks number h at.0 early_writes rd next at.1 e

  wedged-nowhere : (h : HartState) → IsAtCutPoint tasks k number h → hart_step k.code.words h ≡ Wedged → ⊥
  wedged-nowhere h (inl user) e = let on = user-step-leads tasks number k.code.words h user.0 user.1 in cc (sym e ∙ on.step)
  wedged-nowhere h (inr (inl ready)) e = cc (sym e ∙ wants-give-ready k kernel.linked tasks number h ready.0 ready.1)
  wedged-nowhere h (inr (inr (inl ended))) e = cc (sym e ∙ wants-give-done k kernel.linked tasks number h ended.0 ended.1)
  wedged-nowhere h (inr (inr (inr (inl takes)))) e = cc (sym e ∙ wants-take k kernel.linked tasks number h takes)
  wedged-nowhere h (inr (inr (inr (inr idle)))) e = let on = idles k kernel.linked tasks number h idle in cc (sym e ∙ on.step_is)

  never-wedged : (h : HartState) → Way h → hart_step k.code.words h ≡ Wedged → ⊥
  never-wedged h way e = wedged-nowhere h (at-start h way Wedged e (λ g probes did f. cc f)) e

-- What each hart of a kernel does, whatever the others do.
pub each-hart : (k : KernelParts) → IsKernel k → PathsLead → (tasks : List Task) → EachHart tasks k
each-hart k kernel paths-lead tasks = record {
  boots = λ number. boots k kernel.linked tasks number;
  is_sound = λ number h way. way-sound tasks k number h way;
  ticks = λ number h way. way-tick tasks k number h way;
  steps = λ number h g probes did way e. steps-kept k kernel paths-lead tasks number h g probes did way e;
  holds_none = λ number h early_writes rd next way e. (take-start k kernel paths-lead tasks number h early_writes rd next way e).held;
  takes = λ number h early_writes rd next got way e ready.
      takes-kept k kernel tasks number paths-lead h early_writes rd next got (take-start k kernel paths-lead tasks number h early_writes rd next way e) e ready;
  gives_ready = λ number h early_writes rd next way e. kept-gives-ready k kernel paths-lead tasks number h early_writes rd next way e;
  gives_done = λ number h early_writes rd next way e. kept-gives-done k kernel paths-lead tasks number h early_writes rd next way e;
  never_wedged = λ number h way e. never-wedged k kernel paths-lead tasks number h way e;
}
