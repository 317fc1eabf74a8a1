-- A hart in user mode under its plan: it comes to a give by its quantum, its fuel, a fault or a call.
use Rattle.std.proofs.Common.{◌≡◌, ◌≢◌, ℕ, zero, suc, ◌+◌, ◌≤◌, ◌<◌, ◌==◌, ◌⊎◌, inl, inr, Bool, true, false, not, ◌&&◌, List, [], slice_get, Some, None, refl, sym, ap, ◌∙◌, subst, arith}
use Rattle.std.proofs.lemmas.Bool.{eqb-true, eqb-false, eq-eqb, ne_eqb}
use Rattle.isa_model.specs.declared.task.Task.{Task}
use Rattle.hart_model.specs.declared.calls.QueueCall.{QueueCall}
use Rattle.hart_model.specs.declared.calls.Did.TheVariants.{Trapped}
use Rattle.hart_model.specs.Traps.{fuel_cause, timer_cause, interrupt_of}
use Rattle.hart_model.specs.Context.{ContextState, task_of}
use Rattle.hart_model.specs.HartState.{HartState, tick_of}
use Rattle.hart_model.specs.StepResult.{StepResult, Steps}
use Rattle.hart_model.specs.UserStep.{user_step, is_fuel_used}
use Rattle.hart_model.specs.HartStep.{hart_step}
use Rattle.core_model.specs.declared.plan.Plan.{Plan}
use Rattle.core_model.specs.Plans.{quantum_after}
use Rattle.core_model.specs.Routines.{ticked_if, IsUserState}
use Rattle.core_model.specs.Orders.{HartPace, is_tick_due}
use Rattle.core_invariant.specs.CutPoints.{IsTimerTrap, IsFuelTrap, IsFaultTrap, IsCallTrap}
use Rattle.core_invariant.specs.UserLeads.{IsUserOutcome}
use Rattle.core_invariant.proofs.AloneNext.{still-runs}
use Rattle.core_invariant.proofs.AtStart.{user-state-tick}
use Rattle.core_invariant.proofs.UserStands.{interrupt-is}
use Rattle.core_invariant.proofs.UserTraps.{interrupted, interrupt-step, at-interrupt, user-mode-step}
use Rattle.core_invariant.proofs.UserSteps.{user-step-leads}
use Rattle.order_laws.specs.Arrives.{Reaches}
use Rattle.order_laws.proofs.Reach.{comes-step, comes-longer}
use Rattle.order_laws.proofs.UserCounts.{Counts, StepCounts, count_held, one_more, user-counts}

-- one task of a list has one fuel
pub same-fuel : (tasks : List Task) (t u : ℕ) (a b : Task) → t ≡ u → slice_get tasks t ≡ Some a → slice_get tasks u ≡ Some b → a.fuel ≡ b.fuel
same-fuel tasks t u a b same is other =
    let one : a ≡ b = cc (sym is ∙ ap (slice_get tasks) same ∙ other) in ap (λ (x : Task). x.fuel) one

module _ (tasks : List Task) (code : List ℕ) (number : ℕ) (plan : Plan) (pace : HartPace) (There : QueueCall → HartState → Type 0)
    (fuel task_no more : ℕ) where
  abbrev Comes : ℕ → HartState → Type 0
  Comes steps h = Reaches code plan pace number steps There h

  -- a task that goes on, and that has executed no fewer instructions than when it was taken; or one more
  pub record IsMine (c : ContextState) : Type 0 where
    pub task : c.body.task_no ≡ task_no
    pub fuel_is : c.body.fuel ≡ fuel
    pub low : pace.taken_at ≤ c.body.count
    pub high : c.body.count ≤ fuel

  -- what leads on from each trap
  pub record FromTraps : Type 0 where
    pub timer : (h : HartState) (c : ContextState) → IsTimerTrap tasks number h c → IsMine c
        → (pace.taken_at < c.body.count) ⊎ (c.body.count ≡ pace.taken_at + quantum_after plan pace.takes) → Comes more h
    pub fuel_used : (h : HartState) (c : ContextState) → IsFuelTrap tasks number h c → h.csrs.is_timer_pending ≡ false → Comes more h
    pub fault : (n cause : ℕ) (h : HartState) (c : ContextState) → IsFaultTrap tasks number n cause h c → h.csrs.is_timer_pending ≡ false
        → Comes more h
    pub call : (n : ℕ) (h : HartState) (c : ContextState) → IsCallTrap tasks number n h c → h.csrs.is_timer_pending ≡ false → IsMine c
        → pace.taken_at < c.body.count → Comes more h

  -- A task in user mode whose timer is pending is interrupted at once: where its fuel is used by that, and else by the timer.
  pub pending-comes : (h : HartState) (c : ContextState) → IsUserState tasks number h c → h.csrs.is_timer_pending ≡ true
      → ((g : HartState) → IsFuelTrap tasks number g c → Comes more g) → ((g : HartState) → IsTimerTrap tasks number g c → Comes more g)
      → Comes (suc more) h
  pending-comes h c is pending fuel_used timer = by-test (c.body.count == c.body.fuel) refl
    where
      not_due : is_tick_due plan pace h ≡ false
      not_due = let mode = is.user.mode in rw (mode, pending) refl

      step_of : Bool → StepResult
      step_of b = hart_step code (ticked_if b h)

      interrupts : (cause : ℕ) → interrupt_of h.csrs (is_fuel_used h.held) ≡ Some cause
          → step_of (is_tick_due plan pace h) ≡ Steps (interrupted tasks number h c is cause) [] (Trapped cause)
      interrupts cause interrupt = ap step_of not_due ∙ user-mode-step tasks number h c is code ∙ interrupt-step tasks number h c is cause interrupt

      by-test : (used : Bool) → (c.body.count == c.body.fuel) ≡ used → Comes (suc more) h
      by-test true used =
          let interrupt : interrupt_of h.csrs (is_fuel_used h.held) ≡ Some fuel_cause = interrupt-is tasks number h c is ∙ rw used refl in
          comes-step code plan pace number There more h (interrupted tasks number h c is fuel_cause) [] (Trapped fuel_cause)
          (interrupts fuel_cause interrupt)
          (fuel_used (interrupted tasks number h c is fuel_cause)
          (record { trap = at-interrupt tasks number h c is fuel_cause interrupt; is_used = eqb-true c.body.count c.body.fuel used }))
      by-test false used =
          let interrupt : interrupt_of h.csrs (is_fuel_used h.held) ≡ Some timer_cause = interrupt-is tasks number h c is ∙ rw (used, pending) refl in
          let left : c.body.count < c.body.fuel =
          (let apart = eqb-false c.body.count c.body.fuel used in let within = is.within in omega (arith, apart, within)) in
          comes-step code plan pace number There more h (interrupted tasks number h c is timer_cause) [] (Trapped timer_cause)
          (interrupts timer_cause interrupt)
          (timer (interrupted tasks number h c is timer_cause)
          (record {
            trap = at-interrupt tasks number h c is timer_cause interrupt;
            goes_on = still-runs (task_of c.body) c.body.count is.user.body.is_running left;
          }))

  module _ (from : FromTraps) where
    -- whether a tick is due, by its parts
    due-is : (h : HartState) (c : ContextState) → IsUserState tasks number h c → h.csrs.is_timer_pending ≡ false → (used reached : Bool)
        → (c.body.count == c.body.fuel) ≡ used → (c.body.count == pace.taken_at + quantum_after plan pace.takes) ≡ reached
        → is_tick_due plan pace h ≡ not used && reached
    due-is h c is calm used reached u r =
        let mode = is.user.mode in
        let held = is.user.held in
        rw (mode, calm, held, u, r) refl

    -- the interrupt of used fuel
    by-fuel : (h : HartState) (c : ContextState) → IsUserState tasks number h c → h.csrs.is_timer_pending ≡ false
        → (c.body.count == c.body.fuel) ≡ true
        → Comes (suc more) h
    by-fuel h c is calm used =
        let due = due-is h c is calm true (c.body.count == pace.taken_at + quantum_after plan pace.takes) used refl in
        let interrupt : interrupt_of h.csrs (is_fuel_used h.held) ≡ Some fuel_cause = interrupt-is tasks number h c is ∙ rw used refl in
        let F : Bool → StepResult = λ b. hart_step code (ticked_if b h) in
        comes-step code plan pace number There more h (interrupted tasks number h c is fuel_cause) [] (Trapped fuel_cause)
        (ap F due ∙ user-mode-step tasks number h c is code ∙ interrupt-step tasks number h c is fuel_cause interrupt)
        (from.fuel_used (interrupted tasks number h c is fuel_cause) c
        (record { trap = at-interrupt tasks number h c is fuel_cause interrupt; is_used = eqb-true c.body.count c.body.fuel used }) calm)

    -- the interrupt of the timer, whose tick is due
    by-timer : (h : HartState) (c : ContextState) → IsUserState tasks number h c → h.csrs.is_timer_pending ≡ false → IsMine c
        → (c.body.count == c.body.fuel) ≡ false → c.body.count ≡ pace.taken_at + quantum_after plan pace.takes → Comes (suc more) h
    by-timer h c is calm mine used reached =
        let due = due-is h c is calm false true used (eq-eqb c.body.count (pace.taken_at + quantum_after plan pace.takes) reached) in
        let f = tick_of h in
        let ticked = user-state-tick tasks number h c is in
        let interrupt : interrupt_of f.csrs (is_fuel_used f.held) ≡ Some timer_cause = interrupt-is tasks number f c ticked ∙ rw used refl in
        let left : c.body.count < c.body.fuel =
        (let apart = eqb-false c.body.count c.body.fuel used in let within = is.within in omega (arith, apart, within)) in
        let F : Bool → StepResult = λ b. hart_step code (ticked_if b h) in
        comes-step code plan pace number There more h (interrupted tasks number f c ticked timer_cause) [] (Trapped timer_cause)
        (ap F due ∙ user-mode-step tasks number f c ticked code ∙ interrupt-step tasks number f c ticked timer_cause interrupt)
        (from.timer (interrupted tasks number f c ticked timer_cause) c
        (record {
          trap = at-interrupt tasks number f c ticked timer_cause interrupt;
          goes_on = still-runs (task_of c.body) c.body.count is.user.body.is_running left;
        }) mine (inr reached))

    -- fewer steps are enough
    one-longer : (left : ℕ) (g : HartState) → Comes more g → Comes (left + suc more) g
    one-longer left g comes =
        let P : ℕ → Type 0 = λ n. Comes n g in
        let same : suc left + more ≡ left + suc more = omega arith in
        subst P same (comes-longer code plan pace number There (suc left) more g comes)

    by-longer : (left : ℕ) (g : HartState) → Comes (suc more) g → Comes (left + suc more) g
    by-longer left g comes = comes-longer code plan pace number There left (suc more) g comes

    -- where a step of an instruction leads
    by-outcome : (left : ℕ) (g : HartState) (d : ContextState) → IsUserOutcome tasks number g d → g.csrs.is_timer_pending ≡ false → IsMine d
        → pace.taken_at < d.body.count → (IsUserState tasks number g d → Comes (left + suc more) g) → Comes (left + suc more) g
    by-outcome left g d (inl user) calm mine later again = again user
    by-outcome left g d (inr (inl timer)) calm mine later again = one-longer left g (from.timer g d timer mine (inl later))
    by-outcome left g d (inr (inr (inl used))) calm mine later again = one-longer left g (from.fuel_used g d used calm)
    by-outcome left g d (inr (inr (inr (inl fault)))) calm mine later again = one-longer left g (from.fault fault.0 fault.1 g d fault.2 calm)
    by-outcome left g d (inr (inr (inr (inr call)))) calm mine later again = one-longer left g (from.call call.0 g d call.1 calm mine later)

    outcome-task : (g : HartState) (d : ContextState) → IsUserOutcome tasks number g d → slice_get tasks d.body.task_no ≡ Some (task_of d.body)
    outcome-task g d (inl user) = user.user.body.is_task
    outcome-task g d (inr (inl timer)) = timer.trap.is_task
    outcome-task g d (inr (inr (inl used))) = used.trap.is_task
    outcome-task g d (inr (inr (inr (inl fault)))) = fault.2.trap.is_task
    outcome-task g d (inr (inr (inr (inr call)))) = call.1.trap.is_task

    -- one instruction, and what comes from there
    by-instr : (left : ℕ) (h : HartState) (c : ContextState) → IsUserState tasks number h c → h.csrs.is_timer_pending ≡ false → IsMine c
        → (c.body.count == c.body.fuel) ≡ false → c.body.count ≢ pace.taken_at + quantum_after plan pace.takes
        → ((g : HartState) (d : ContextState) → IsUserState tasks number g d → g.csrs.is_timer_pending ≡ false → IsMine d
        → d.body.count ≡ c.body.count + 1
        → Comes (left + suc more) g) → Comes (suc (left + suc more)) h
    by-instr left h c is calm mine used apart again =
        let due = due-is h c is calm false false used (ne_eqb c.body.count (pace.taken_at + quantum_after plan pace.takes) apart) in
        let interrupt : interrupt_of h.csrs (is_fuel_used h.held) ≡ None = interrupt-is tasks number h c is ∙ rw (used, calm) refl in
        let step = user-step-leads tasks number code h c is in
        let user : user_step h ≡ Steps step.hart step.probes step.did = sym (user-mode-step tasks number h c is code) ∙ step.step in
        let counts : Counts h (one_more (count_held h.held)) step.hart =
        subst (StepCounts h (one_more (count_held h.held))) user (user-counts h interrupt) in
        let both : Some step.context.body.count ≡ Some (c.body.count + 1) =
        sym (ap count_held step.held) ∙ counts.count_is ∙ ap (λ o. one_more (count_held o)) is.user.held in
        let count : step.context.body.count ≡ c.body.count + 1 = cc both in
        let left_over : c.body.count < c.body.fuel =
        (let differ = eqb-false c.body.count c.body.fuel used in let within = is.within in omega (arith, differ, within)) in
        let low = mine.low in
        let same = mine.fuel_is in
        let now : IsMine step.context = record {
          task = step.task_no ∙ mine.task;
          fuel_is = same-fuel tasks step.context.body.task_no c.body.task_no (task_of step.context.body) (task_of c.body) step.task_no
              (outcome-task step.hart step.context step.outcome) is.user.body.is_task ∙ mine.fuel_is;
          low = omega (arith, low, count);
          high = omega (arith, left_over, same, count);
        } in
        let F : Bool → StepResult = λ b. hart_step code (ticked_if b h) in
        comes-step code plan pace number There (left + suc more) h step.hart step.probes step.did (ap F due ∙ step.step)
        (by-outcome left step.hart step.context step.outcome (counts.pending ∙ calm) now (omega (arith, low, count))
        (λ user. again step.hart step.context user (counts.pending ∙ calm) now count))

    -- A task in user mode with so many instructions of its quantum left.
    pub user-comes : (left : ℕ) (h : HartState) (c : ContextState) → IsUserState tasks number h c → h.csrs.is_timer_pending ≡ false → IsMine c
        → c.body.count + left ≡ pace.taken_at + quantum_after plan pace.takes → Comes (left + suc more) h
    user-comes zero h c is calm mine reached =
        by-longer 0 h (by-test (c.body.count == c.body.fuel) refl)
      where
        by-test : (used : Bool) → (c.body.count == c.body.fuel) ≡ used → Comes (suc more) h
        by-test true used = by-fuel h c is calm used
        by-test false used = by-timer h c is calm mine used (omega (arith, reached))
    user-comes (suc left) h c is calm mine reached =
        by-test (c.body.count == c.body.fuel) refl (λ g d user still own count. user-comes left g d user still own (omega (arith, reached, count)))
      where
        by-test : (used : Bool) → (c.body.count == c.body.fuel) ≡ used
            → ((g : HartState) (d : ContextState) → IsUserState tasks number g d → g.csrs.is_timer_pending ≡ false → IsMine d
            → d.body.count ≡ c.body.count + 1
            → Comes (left + suc more) g) → Comes (suc left + suc more) h
        by-test true used again = by-longer (suc left) h (by-fuel h c is calm used)
        by-test false used again =
            let P : ℕ → Type 0 = λ n. Comes n h in
            let same : suc (left + suc more) ≡ suc left + suc more = omega arith in
            subst P same (by-instr left h c is calm mine used (λ e. absurd (omega (arith, e, reached))) again)
