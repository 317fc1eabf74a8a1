-- Every step of a hart in user mode: it goes on, or traps by an interrupt, a fault or a call.
use Rattle.std.proofs.Common.{◌≡◌, ℕ, ◌<◌, ◌==◌, ◌⊎◌, inl, inr, Bool, true, false, List, [], Some, None, refl, ◌∙◌, arith}
use Rattle.std.proofs.lemmas.Bool.{eqb-true, eqb-false}
use Rattle.std.proofs.lemmas.List.Elements.{All-nil}
use Rattle.isa_model.specs.declared.task.Task.{Task}
use Rattle.isa_model.specs.Alone.{alone_at}
use Rattle.hart_model.specs.declared.calls.Did.TheVariants.{Trapped}
use Rattle.hart_model.specs.Traps.{fuel_cause, timer_cause, interrupt_of}
use Rattle.hart_model.specs.Context.{ContextState, task_of}
use Rattle.hart_model.specs.HartState.{HartState}
use Rattle.hart_model.specs.UserStep.{is_fuel_used}
use Rattle.hart_model.specs.UserLaws.{GoesOnAlone, FaultsAlone, CallsAlone, IsInstrAlone}
use Rattle.hart_model.proofs.UserStepIsAlone.{user_step_is_alone}
use Rattle.core_model.specs.Explained.{IsExplained}
use Rattle.core_model.specs.Routines.{IsUserState}
use Rattle.core_invariant.specs.UserLeads.{IsUserOutcome, UserStepLeads}
use Rattle.core_invariant.proofs.AloneNext.{still-runs}
use Rattle.core_invariant.proofs.UserStands.{at-run-alone, user_interrupt, interrupt-is}
use Rattle.core_invariant.proofs.UserTraps.{same-cause, user-mode-step, interrupted, interrupt-step, at-interrupt}
use Rattle.core_invariant.proofs.UserFaults.{fault-leads, call-leads}
use Rattle.core_invariant.proofs.UserGoesOn.{goes-leads}

module _ (tasks : List Task) (number : ℕ) (code : List ℕ) (h : HartState) (c : ContextState) (is : IsUserState tasks number h c) where
  by_interrupt_leads : (cause : ℕ) → interrupt_of h.csrs (is_fuel_used h.held) ≡ Some cause
      → IsUserOutcome tasks number (interrupted tasks number h c is cause) c → UserStepLeads tasks code number h c
  by_interrupt_leads cause some outcome = record {
    hart = interrupted tasks number h c is cause;
    probes = [];
    did = Trapped cause;
    context = c;
    step = user-mode-step tasks number h c is code ∙ interrupt-step tasks number h c is cause some;
    explained = All-nil (IsExplained tasks);
    held = is.user.held;
    task_no = refl;
    slot = refl;
    outcome = outcome;
    at_trap = λ x e. same-cause tasks number c.body.count (interrupted tasks number h c is cause) c cause x e (at-interrupt tasks number h c is cause some);
  }

  by_instr_leads : interrupt_of h.csrs (is_fuel_used h.held) ≡ None → (alone_at (task_of c.body) c.body.count).end ≡ None → c.body.count < c.body.fuel
      → UserStepLeads tasks code number h c
  by_instr_leads none runs left =
      let T = task_of c.body in
      let s = alone_at T c.body.count in
      let alone : IsInstrAlone T s h c = user_step_is_alone T is.valid s h c (at-run-alone tasks number h c is) none in
      go alone.follows
    where
      go : GoesOnAlone (task_of c.body) (alone_at (task_of c.body) c.body.count) h c
          ⊎ ((cause : ℕ) × FaultsAlone (task_of c.body) (alone_at (task_of c.body) c.body.count) h c cause)
          ⊎ CallsAlone (task_of c.body) (alone_at (task_of c.body) c.body.count) h c → UserStepLeads tasks code number h c
      go (inl goes) = goes-leads tasks number h c is none runs left goes code
      go (inr (inl faults)) = fault-leads tasks number h c is none runs code faults.0 left faults.1
      go (inr (inr calls)) = call-leads tasks number h c is none runs code left calls

  -- the fuel is used, or there is some left and the timer is pending or not
  by_tests : (used pending : Bool) → (c.body.count == c.body.fuel) ≡ used → interrupt_of h.csrs (is_fuel_used h.held) ≡ user_interrupt used pending
      → UserStepLeads tasks code number h c
  by_tests true pending test interrupt =
      by_interrupt_leads fuel_cause interrupt
      (inr (inr (inl (record { trap = at-interrupt tasks number h c is fuel_cause interrupt; is_used = eqb-true c.body.count c.body.fuel test }))))
  by_tests false pending test interrupt = with_fuel pending interrupt
    where
      left : c.body.count < c.body.fuel
      left = let not = eqb-false c.body.count c.body.fuel test in let within = is.within in omega arith

      runs : (alone_at (task_of c.body) c.body.count).end ≡ None
      runs = still-runs (task_of c.body) c.body.count is.user.body.is_running left

      with_fuel : (pending : Bool) → interrupt_of h.csrs (is_fuel_used h.held) ≡ user_interrupt false pending → UserStepLeads tasks code number h c
      with_fuel true interrupt =
          by_interrupt_leads timer_cause interrupt (inr (inl (record { trap = at-interrupt tasks number h c is timer_cause interrupt; goes_on = runs })))
      with_fuel false interrupt = by_instr_leads interrupt runs left

  -- Every step of a hart in user mode.
  pub user-step-leads : UserStepLeads tasks code number h c
  user-step-leads = by_tests (c.body.count == c.body.fuel) h.csrs.is_timer_pending refl (interrupt-is tasks number h c is)
