-- An instruction in user mode that faults or calls leads to its trap.
use Rattle.std.proofs.Common.{◌≡◌, ℕ, ◌+◌, ◌<◌, inl, inr, List, [], length, map, All, None, refl, ap, sym, ◌∙◌, subst, arith}
use Rattle.std.proofs.lemmas.List.Elements.{All-nil}
use Rattle.isa_model.specs.declared.task.Task.{Task}
use Rattle.isa_model.specs.declared.latch.Latch.{Latch}
use Rattle.isa_model.specs.declared.latch.Latch.TheVariants as latches
use Rattle.isa_model.specs.Effect.{Write, Next, Goes, Raises, Calls, Returns}
use Rattle.isa_model.specs.Alone.{AloneState, alone_at}
use Rattle.isa_model.specs.AloneValue.{alone_value}
use Rattle.hart_model.specs.declared.calls.Did.{Did}
use Rattle.hart_model.specs.declared.calls.Did.TheVariants.{Trapped}
use Rattle.hart_model.specs.declared.place.Place.TheVariants as places
use Rattle.hart_model.specs.declared.probe.Probe.{Probe}
use Rattle.hart_model.specs.declared.tag.Cell.{Cell}
use Rattle.hart_model.specs.Traps.{interrupt_of}
use Rattle.hart_model.specs.Csrs.{CsrFile}
use Rattle.hart_model.specs.Context.{ContextState, task_of}
use Rattle.hart_model.specs.HartState.{HartState, hart_cell}
use Rattle.hart_model.specs.Writes.{HartAndProbes}
use Rattle.hart_model.specs.StepResult.{StepResult, Steps, did_of, probes_of}
use Rattle.hart_model.specs.UserStep.{user_step, is_fuel_used, after_user_writes, with_next_count}
use Rattle.hart_model.specs.UserLaws.{IsRunLatch, alone_effect, written_value, user_entry, TrapsBy, FaultsAlone, CallsAlone}
use Rattle.hart_model.proofs.EffectShapes.{HasShapeBy, effect_shape}
use Rattle.hart_model.proofs.UserWrites.{reg_value, value_of_register}
use Rattle.hart_model.proofs.UserWritesOwn.{run_place}
use Rattle.hart_model.proofs.UserStepIsAlone.{step_is, wrote}
use Rattle.core_model.specs.Explained.{IsExplained}
use Rattle.core_model.specs.Soundness.{IsTruthful}
use Rattle.core_model.specs.Routines.{IsUserState}
use Rattle.core_invariant.specs.CutPoints.{IsAtTrap}
use Rattle.core_invariant.specs.UserLeads.{UserStepLeads}
use Rattle.core_invariant.proofs.AloneNext.{IsOther, other-values, next-state}
use Rattle.core_invariant.proofs.OwnCells.{truthful-next}
use Rattle.core_invariant.proofs.UserStands.{at-run-alone, values-alone}
use Rattle.core_invariant.proofs.UserTruth.{HasStepped, all-truthful, reg-cell}
use Rattle.core_invariant.proofs.UserAfter.{writes-own, value-written, latch-next, all-explained}
use Rattle.core_invariant.proofs.UserTraps.{counted, same-cause, at-trap, user-mode-step}

-- an effect after which the hart has trapped by a call writes nothing
called_writes : (T : Task) (a : HartAndProbes) (writes : List Write) (next : Next) → HasShapeBy T writes next
    → did_of (after_user_writes a next) ≡ Trapped 8 → writes ≡ []
called_writes T a writes (Goes pc) shape did = absurd cc
called_writes T a writes (Raises cause) shape did = let is : cause ≡ 8 = cause_is did in let low = shape.0 in absurd (omega arith)
  where
    cause_is : Trapped cause ≡ Trapped 8 → cause ≡ 8
    cause_is e = cc
called_writes T a writes Calls shape did = shape
called_writes T a writes Returns shape did = absurd shape

module _ (tasks : List Task) (number : ℕ) (h : HartState) (c : ContextState) (is : IsUserState tasks number h c)
    (none : interrupt_of h.csrs (is_fuel_used h.held) ≡ None) (runs : (alone_at (task_of c.body) c.body.count).end ≡ None) where
  abbrev T : Task
  T = task_of c.body

  abbrev n : ℕ
  n = c.body.count

  abbrev s : AloneState
  s = alone_at T n

  no_writes_called : did_of (user_step h) ≡ Trapped 8 → (alone_effect T s).writes ≡ []
  no_writes_called did =
      let at = at-run-alone tasks number h c is in
      let a = wrote s h c is.valid at none (alone_effect T s) in
      called_writes T (record { hart = with_next_count a.hart; probes = a.probes }) (alone_effect T s).writes (alone_effect T s).next
      (effect_shape T s is.valid at.pc_aligned) (sym (ap (λ (r : StepResult). did_of r) (step_is s h c is.valid at none)) ∙ did)

  -- the latches but for the registers have what is written
  pub other-now : (l : Latch) → IsOther l → alone_value T (n + 1) l ≡ written_value T s l
  other-now l other = (next-state T n runs).value l ∙ other-values T s l other

  -- the entries of the step
  pub step-explained : (g : HartState) (probes : List Probe) (did : Did) → user_step h ≡ Steps g probes did
      → All (IsExplained tasks) (map (user_entry h c.body) (alone_effect T s).writes) → All (IsExplained tasks) probes
  step-explained g probes did step explained =
      let entries : map (user_entry h c.body) (alone_effect T s).writes ≡ probes =
      sym (writes-own tasks number h c is none).entries ∙ ap (λ (r : StepResult). probes_of r) step in
      subst (λ (ps : List Probe). All (IsExplained tasks) ps) entries explained

  -- a hart that trapped by an instruction
  module _ (cause : ℕ) (traps : TrapsBy cause h c) where
    trap_stepped : HasStepped h c traps.hart (counted c (n + 1))
    trap_stepped = record {
      held = traps.held;
      task = refl;
      slot = refl;
      words = refl;
      scratch = ap (λ (x : CsrFile). x.mscratch) traps.csrs;
      zero_word = traps.zero_word;
      registers = ap (λ (cells : List Cell). length cells) traps.registers ∙ is.sound.registers;
    }

    other_truthful : (l : Latch) → IsRunLatch T l → IsOther l → IsTruthful tasks (hart_cell traps.hart (run_place T l))
    other_truthful l run other =
        truthful-next T c.body.task_no n l tasks is.user.body.is_task (hart_cell h (run_place T l)) (hart_cell traps.hart (run_place T l))
        (latch-next tasks number h c is none traps.hart (counted c (n + 1)) traps.probes (Trapped cause) traps.step trap_stepped l run (other-now l other))
        (is.sound.truthful (run_place T l))

    run_truthful : (l : Latch) → IsRunLatch T l → IsTruthful tasks (hart_cell traps.hart (run_place T l))
    run_truthful (latches.Reg r) run =
        subst (λ (x : Cell). IsTruthful tasks x) (sym (reg-cell traps.hart h r traps.registers)) (is.sound.truthful (places.Reg r))
    run_truthful latches.PortA run = other_truthful latches.PortA run tt
    run_truthful latches.PortB run = other_truthful latches.PortB run tt
    run_truthful latches.Res run = other_truthful latches.Res run tt
    run_truthful latches.Load run = other_truthful latches.Load run tt
    run_truthful latches.Store run = other_truthful latches.Store run tt
    run_truthful latches.Scr run = absurd run
    run_truthful latches.Mul run = other_truthful latches.Mul run tt
    run_truthful (latches.Mem at) run = other_truthful (latches.Mem at) run tt

    trapped : IsAtTrap tasks number n cause traps.hart (counted c (n + 1))
    trapped =
        at-trap tasks number h c is traps.hart (n + 1) cause traps.probes traps.step traps.pc traps.csrs traps.registers traps.zero_word traps.held
        (all-truthful tasks number h traps.hart c (counted c (n + 1)) is trap_stepped run_truthful)

    -- registers have what is written, where the run alone keeps them
    reg_now : (r : ℕ) → r < 32 → alone_value T (n + 1) (latches.Reg r) ≡ s.value (latches.Reg r)
        → alone_value T (n + 1) (latches.Reg r) ≡ written_value T s (latches.Reg r)
    reg_now r low kept =
        kept ∙ sym (values-alone tasks number h c is (latches.Reg r) low) ∙ value_of_register h r
        ∙ ap (λ (cells : List Cell). reg_value cells r) (sym traps.registers)
        ∙ sym (value_of_register traps.hart r)
        ∙ value-written tasks number h c is none traps.hart (counted c (n + 1)) traps.probes (Trapped cause) traps.step trap_stepped (latches.Reg r) low low

    run_now : ((r : ℕ) → r < 32 → alone_value T (n + 1) (latches.Reg r) ≡ s.value (latches.Reg r)) → (l : Latch) → IsRunLatch T l
        → alone_value T (n + 1) l ≡ written_value T s l
    run_now kept (latches.Reg r) run = reg_now r run (kept r run)
    run_now kept latches.PortA run = other-now latches.PortA tt
    run_now kept latches.PortB run = other-now latches.PortB tt
    run_now kept latches.Res run = other-now latches.Res tt
    run_now kept latches.Load run = other-now latches.Load tt
    run_now kept latches.Store run = other-now latches.Store tt
    run_now kept latches.Scr run = absurd run
    run_now kept latches.Mul run = other-now latches.Mul tt
    run_now kept (latches.Mem at) run = other-now (latches.Mem at) tt

  -- A fault.
  pub fault-leads : (code : List ℕ) (cause : ℕ) → n < c.body.fuel → FaultsAlone T s h c cause → UserStepLeads tasks code number h c
  fault-leads code cause left faults =
      let traps = faults.traps in
      let own = writes-own tasks number h c is none in
      record {
        hart = traps.hart;
        probes = traps.probes;
        did = Trapped cause;
        context = counted c (n + 1);
        step = user-mode-step tasks number h c is code ∙ traps.step;
        explained = step-explained traps.hart traps.probes (Trapped cause) traps.step
            (all-explained tasks number h c is none is.user.body.is_task
            (run_now cause traps (λ r low. (next-state T n runs).value (latches.Reg r) ∙ faults.values (latches.Reg r) low))
            (alone_effect T s).writes own.latches own.values);
        held = traps.held;
        task_no = refl;
        slot = refl;
        outcome = inr (inr (inr (inl (
          n,
          cause,
          record {
            trap = trapped cause traps;
            count = refl;
            fuel_left = left;
            is_low = faults.is_low;
            went_on = runs;
            ends = faults.ends;
            output = faults.output;
          },
        ))));
        at_trap = λ x e. same-cause tasks number c.body.count traps.hart (counted c (n + 1)) cause x e (trapped cause traps);
      }

  -- A call.
  pub call-leads : (code : List ℕ) → n < c.body.fuel → CallsAlone T s h c → UserStepLeads tasks code number h c
  call-leads code left calls =
      let traps = calls.traps in
      let nothing : (alone_effect T s).writes ≡ [] = no_writes_called (ap (λ (r : StepResult). did_of r) traps.step) in
      record {
        hart = traps.hart;
        probes = traps.probes;
        did = Trapped 8;
        context = counted c (n + 1);
        step = user-mode-step tasks number h c is code ∙ traps.step;
        explained = step-explained traps.hart traps.probes (Trapped 8) traps.step
            (subst (λ (ws : List Write). All (IsExplained tasks) (map (user_entry h c.body) ws)) (sym nothing) (All-nil (IsExplained tasks)));
        held = traps.held;
        task_no = refl;
        slot = refl;
        outcome = inr (inr (inr (inr (
          n,
          record {
            trap = trapped 8 traps;
            count = refl;
            fuel_left = left;
            went_on = runs;
            serves = calls.serves;
          },
        ))));
        at_trap = λ x e. same-cause tasks number c.body.count traps.hart (counted c (n + 1)) 8 x e (trapped 8 traps);
      }
