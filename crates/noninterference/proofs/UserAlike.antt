-- Two harts in user mode, with tasks that are alike, step alike.
use Rattle.std.proofs.Common.{◌≡◌, ℕ, ◌<◌, ◌==◌, Bool, true, false, List, Option, Some, None, refl, ap, sym, ◌∙◌, subst, arith}
use Rattle.std.proofs.lemmas.Bool.{eqb-false}
use Rattle.isa_model.specs.declared.task.Task.{Task}
use Rattle.isa_model.specs.Effect.{Effect}
use Rattle.isa_model.specs.Alone.{alone_at}
use Rattle.hart_model.specs.Csrs.{CsrFile}
use Rattle.hart_model.specs.Traps.{fuel_cause, timer_cause, interrupt_of}
use Rattle.hart_model.specs.Context.{ContextState, task_of}
use Rattle.hart_model.specs.HartState.{HartState}
use Rattle.hart_model.specs.StepResult.{StepResult}
use Rattle.hart_model.specs.UserStep.{user_step, is_fuel_used, by_interrupt, user_instr_step, after_user_effect, after_trap, no_writes}
use Rattle.hart_model.specs.UserLaws.{alone_effect}
use Rattle.hart_model.proofs.UserStepIsAlone.{user_step_is_alone}
use Rattle.core_model.specs.LowEquivalence.{AreTasksAlike}
use Rattle.core_model.specs.Routines.{IsUserState}
use Rattle.core_invariant.proofs.AloneNext.{still-runs}
use Rattle.core_invariant.proofs.UserStands.{at-run-alone, user_interrupt, interrupt-is}
use Rattle.core_model.specs.AlikeHarts.{AreContextsAlike, AreHeldAlike, AreHartsAlike}
use Rattle.noninterference.specs.AlikeSteps.{AreStepsAlike}
use Rattle.noninterference.proofs.UserCsrs.{csrs-agree}
use Rattle.noninterference.proofs.UserTraps.{AreEffectsAlike, trap-alike, effects-step-alike}
use Rattle.noninterference.proofs.ControlEffects.{control-effects}

-- a step by the interrupt that is due, or by the effect of the run alone's instruction
interrupt_step : (h : HartState) (o : Option ℕ) → interrupt_of h.csrs (is_fuel_used h.held) ≡ o → user_step h ≡ by_interrupt h o
unfolding user_step
interrupt_step h o is = ap (λ (r : Option ℕ). by_interrupt h r) is

instr_step : (tasks : List Task) (number : ℕ) (h : HartState) (c : ContextState) → IsUserState tasks number h c
    → interrupt_of h.csrs (is_fuel_used h.held) ≡ None
    → user_step h ≡ after_user_effect h c.body (alone_effect (task_of c.body) (alone_at (task_of c.body) c.body.count))
instr_step tasks number h c is none =
    let alone = user_step_is_alone (task_of c.body) is.valid (alone_at (task_of c.body) c.body.count) h c (at-run-alone tasks number h c is) none in
    interrupt_step h None none ∙ ap (λ (o : Option ContextState). user_instr_step h o) is.user.held
    ∙ ap (λ (e : Effect). after_user_effect h c.body e) alone.effect

same_steps : (x y x' y' : StepResult) → x ≡ x' → y ≡ y' → AreStepsAlike x' y' → AreStepsAlike x y
same_steps x y x' y' left right alike =
    subst (λ s. AreStepsAlike s y) (sym left) (subst (λ s. AreStepsAlike x' s) (sym right) alike)

pub contexts_alike : (o r : Option ContextState) (c d : ContextState) → AreHeldAlike o r → o ≡ Some c → r ≡ Some d → AreContextsAlike c d
contexts_alike o r c d alike holds other = subst (λ q. AreHeldAlike (Some c) q) other (subst (λ p. AreHeldAlike p r) holds alike)

module _ (tasks others : List Task) (number : ℕ) (h g : HartState) (c d : ContextState)
    (is : IsUserState tasks number h c) (other : IsUserState others number g d)
    (alike_tasks : AreTasksAlike (task_of c.body) (task_of d.body))
    (alike : AreHartsAlike h g) where
  held : AreContextsAlike c d
  held = contexts_alike h.held g.held c d alike.held is.user.held other.user.held

  -- the same interrupt is due
  interrupt_there : (used pending : Bool) → (c.body.count == c.body.fuel) ≡ used → h.csrs.is_timer_pending ≡ pending
      → interrupt_of g.csrs (is_fuel_used g.held) ≡ user_interrupt used pending
  interrupt_there used pending test is_pending =
      let count = held.body.count in
      let fuel = held.body.fuel in
      let same = csrs-agree (λ (x : CsrFile). x.is_timer_pending) h.csrs g.csrs alike.csrs (λ x m. refl) in
      interrupt-is others number g d other
      ∙ ap (λ n. user_interrupt (n == d.body.fuel) g.csrs.is_timer_pending) (sym count)
      ∙ ap (λ n. user_interrupt (c.body.count == n) g.csrs.is_timer_pending) (sym fuel)
      ∙ ap (λ (b : Bool). user_interrupt b g.csrs.is_timer_pending) test
      ∙ ap (λ (b : Bool). user_interrupt used b) (sym same ∙ is_pending)

  interrupt_here : (used pending : Bool) → (c.body.count == c.body.fuel) ≡ used → h.csrs.is_timer_pending ≡ pending
      → interrupt_of h.csrs (is_fuel_used h.held) ≡ user_interrupt used pending
  interrupt_here used pending test is_pending =
      interrupt-is tasks number h c is
      ∙ ap (λ (b : Bool). user_interrupt b h.csrs.is_timer_pending) test
      ∙ ap (λ (b : Bool). user_interrupt used b) is_pending

  by_cause : (cause : ℕ) → interrupt_of h.csrs (is_fuel_used h.held) ≡ Some cause → interrupt_of g.csrs (is_fuel_used g.held) ≡ Some cause
      → AreStepsAlike (user_step h) (user_step g)
  by_cause cause here there =
      same_steps (user_step h) (user_step g) (after_trap (no_writes h) cause) (after_trap (no_writes g) cause)
      (interrupt_step h (Some cause) here) (interrupt_step g (Some cause) there)
      (trap-alike (no_writes h) (no_writes g) (record { harts = alike; probes = tt }) cause)

  -- the two instructions have effects that are alike
  same_effects : c.body.count < c.body.fuel
      → AreEffectsAlike (alone_effect (task_of c.body) (alone_at (task_of c.body) c.body.count))
      (alone_effect (task_of d.body) (alone_at (task_of d.body) d.body.count))
  same_effects left =
      let T : Task = task_of c.body in
      let U : Task = task_of d.body in
      let count : c.body.count ≡ d.body.count = held.body.count in
      let fuel : c.body.fuel ≡ d.body.fuel = held.body.fuel in
      let left' : d.body.count < d.body.fuel = omega (arith, left, count, fuel) in
      let runs = still-runs T c.body.count is.user.body.is_running left in
      let runs' : (alone_at U c.body.count).end ≡ None =
      ap (λ n. (alone_at U n).end) count ∙ still-runs U d.body.count other.user.body.is_running left' in
      subst (λ n. AreEffectsAlike (alone_effect T (alone_at T c.body.count)) (alone_effect U (alone_at U n))) count
      (control-effects T U alike_tasks c.body.count left runs runs')

  by_instr : c.body.count < c.body.fuel → interrupt_of h.csrs (is_fuel_used h.held) ≡ None → interrupt_of g.csrs (is_fuel_used g.held) ≡ None
      → AreStepsAlike (user_step h) (user_step g)
  by_instr left here there =
      let e : Effect = alone_effect (task_of c.body) (alone_at (task_of c.body) c.body.count) in
      let f : Effect = alone_effect (task_of d.body) (alone_at (task_of d.body) d.body.count) in
      same_steps (user_step h) (user_step g) (after_user_effect h c.body e) (after_user_effect g d.body f)
      (instr_step tasks number h c is here) (instr_step others number g d other there)
      (effects-step-alike h g c.body d.body e f alike held.body.task_no held.body.count (same_effects left))

  by_tests : (used pending : Bool) → (c.body.count == c.body.fuel) ≡ used → h.csrs.is_timer_pending ≡ pending
      → AreStepsAlike (user_step h) (user_step g)
  by_tests true pending test is_pending = by_cause fuel_cause (interrupt_here true pending test is_pending) (interrupt_there true pending test is_pending)
  by_tests false true test is_pending = by_cause timer_cause (interrupt_here false true test is_pending) (interrupt_there false true test is_pending)
  by_tests false false test is_pending =
      let not = eqb-false c.body.count c.body.fuel test in
      let within = is.within in
      by_instr (omega arith) (interrupt_here false false test is_pending) (interrupt_there false false test is_pending)

  -- Two harts in user mode step alike, where their tasks are alike.
  pub user-alike : AreStepsAlike (user_step h) (user_step g)
  user-alike = by_tests (c.body.count == c.body.fuel) h.csrs.is_timer_pending refl refl
