-- Steps of two harts that are alike where both start: they come to one queue action, or go on to where they are led to starts again.
use Rattle.std.proofs.Common.{◌≡◌, ℕ, zero, suc, inl, inr, pos, List, [], ◌∷◌, slice_get, Option, Some, refl, sym, ap, ◌∙◌, subst, arith}
use Rattle.isa_model.specs.declared.task.Task.{Task}
use Rattle.isa_model.specs.declared.instr.Instr.TheVariants.{Jal}
use Rattle.hart_model.specs.Context.{ContextState, task_of}
use Rattle.hart_model.specs.HartState.{HartState}
use Rattle.hart_model.specs.StepResult.{StepResult, Steps}
use Rattle.hart_model.specs.UserStep.{user_step}
use Rattle.hart_model.specs.HartStep.{hart_step}
use Rattle.core_model.specs.LowEquivalence.{ArePairwise, AreTasksAlike}
use Rattle.symbolic_run.proofs.Paths.{machine-step-at}
use Rattle.core_invariant.specs.KernelStates.{KernelParts, IsKernel, idle_at, IsAlikeKernel}
use Rattle.core_model.specs.Routines.{IsUserState}
use Rattle.core_invariant.specs.CutPoints.{IsAtCutPoint}
use Rattle.core_invariant.specs.UserLeads.{IsUserOutcome}
use Rattle.core_invariant.proofs.UserSteps.{user-step-leads}
use Rattle.core_invariant.proofs.UserTraps.{user-mode-step}
use Rattle.core_invariant.proofs.Gives.{wants-give-ready, wants-give-done}
use Rattle.core_invariant.proofs.Takes.{wants-take}
use Rattle.core_invariant.proofs.Idle.{idles}
use Rattle.core_model.specs.AlikeHarts.{AreHartsAlike}
use Rattle.noninterference.specs.AlikeSteps.{AreStepsAlike, DecidesAlike}
use Rattle.noninterference.specs.AlikeCores.{AreStepsTogether, LedBoth}
use Rattle.noninterference.proofs.MachineAlike.{machine-alike}
use Rattle.noninterference.proofs.UserCsrs.{user-alone, machine-alone}
use Rattle.noninterference.proofs.UserAlike.{contexts_alike, user-alike}
use Rattle.noninterference.proofs.BothWays.{go-together-steps}
use Rattle.noninterference.proofs.BothPaths.{went-alike}
use Rattle.noninterference.proofs.BothOutcomes.{AreAtStarts, outcome-led}

-- steps that are together are so in other words too
pub together-as : (There : HartState → HartState → Type 0) (x y s t : StepResult) → x ≡ s → y ≡ t → AreStepsTogether There s t → AreStepsTogether There x y
together-as There x y s t e f both =
    subst (λ z. AreStepsTogether There z y) (sym e) (subst (λ z. AreStepsTogether There s z) (sym f) both)

-- steps that are alike are so in other words too
pub alike-as : (x y s t : StepResult) → x ≡ s → y ≡ t → AreStepsAlike x y → AreStepsAlike s t
alike-as x y s t e f both = subst (λ z. AreStepsAlike z t) e (subst (λ z. AreStepsAlike x z) f both)

-- tasks of one number are alike
runs-at : (tasks others : List Task) (i : ℕ) (T U : Task) → ArePairwise AreTasksAlike tasks others → slice_get tasks i ≡ Some T → slice_get others i ≡ Some U
    → AreTasksAlike T U
runs-at [] others i T U all e f = absurd (cc e)
runs-at (t ∷ tasks) [] i T U all e f = absurd (cc f)
runs-at (t ∷ tasks) (u ∷ others) zero T U all e f =
    let P : Task → Type 0 = λ x. AreTasksAlike x U in
    let Q : Task → Type 0 = λ x. AreTasksAlike t x in
    let first : t ≡ T = cc e in
    let second : u ≡ U = cc f in
    subst P first (subst Q second all.0)
runs-at (t ∷ tasks) (u ∷ others) (suc i) T U all e f = runs-at tasks others i T U all.1 e f

-- the task of what a hart holds after a step in user mode
outcome-task : (tasks : List Task) (number : ℕ) (h : HartState) (c : ContextState) → IsUserOutcome tasks number h c
    → slice_get tasks c.body.task_no ≡ Some (task_of c.body)
outcome-task tasks number h c (inl user) = user.user.body.is_task
outcome-task tasks number h c (inr (inl timer)) = timer.trap.is_task
outcome-task tasks number h c (inr (inr (inl fuel))) = fuel.trap.is_task
outcome-task tasks number h c (inr (inr (inr (inl fault)))) = fault.2.trap.is_task
outcome-task tasks number h c (inr (inr (inr (inr call)))) = call.1.trap.is_task

module _ (k : KernelParts) (kernel : IsKernel k) (of_both : IsAlikeKernel k) (tasks others : List Task) (runs : ArePairwise AreTasksAlike tasks others)
    (number : ℕ) where
  abbrev Led : HartState → HartState → Type 0
  Led h g = LedBoth (AreAtStarts tasks others k) k number h g

  context-runs : (o r : Option ContextState) (c d : ContextState) (h g : HartState) → AreHartsAlike h g → h.held ≡ Some c → g.held ≡ Some d
      → slice_get tasks c.body.task_no ≡ Some (task_of c.body) → slice_get others d.body.task_no ≡ Some (task_of d.body)
      → AreTasksAlike (task_of c.body) (task_of d.body)
  context-runs o r c d h g alike held held_too e f =
      let same = (contexts_alike h.held g.held c d alike.held held held_too).body.task_no in
      runs-at tasks others c.body.task_no (task_of c.body) (task_of d.body) runs e (ap (slice_get others) same ∙ f)

  module _ (h g : HartState) (alike : AreHartsAlike h g) where
    -- in user mode
    user-together : (c d : ContextState) → IsUserState tasks number h c → IsUserState others number g d
        → AreStepsTogether Led (hart_step k.code.words h) (hart_step k.code.words g)
    user-together c d is used =
        let one = user-step-leads tasks number k.code.words h c is in
        let two = user-step-leads others number k.code.words g d used in
        let now = context-runs h.held g.held c d h g alike is.user.held used.user.held is.user.body.is_task used.user.body.is_task in
        let steps : AreStepsAlike (user_step h) (user_step g) = user-alike tasks others number h g c d is used now alike in
        let by = sym (user-mode-step tasks number h c is k.code.words) ∙ one.step in
        let by_too = sym (user-mode-step others number g d used k.code.words) ∙ two.step in
        let left : AreStepsAlike (Steps one.hart one.probes one.did) (Steps two.hart two.probes two.did) =
        alike-as (user_step h) (user_step g) (Steps one.hart one.probes one.did) (Steps two.hart two.probes two.did) by by_too steps in
        let later = context-runs one.hart.held two.hart.held one.context two.context one.hart two.hart left.0.harts one.held two.held
        (outcome-task tasks number one.hart one.context one.outcome) (outcome-task others number two.hart two.context two.outcome) in
        together-as Led (hart_step k.code.words h) (hart_step k.code.words g) (Steps one.hart one.probes one.did) (Steps two.hart two.probes two.did)
        one.step two.step (
          left.0.probes,
          outcome-led k kernel of_both tasks others number one.hart two.hart one.context two.context left.0.harts later
              one.outcome two.outcome,
        )

    -- one pc
    one-place : (a b : ℕ) → h.pc ≡ a → g.pc ≡ b → a ≡ b
    one-place a b e f = sym e ∙ alike.pc ∙ f

    pub start-together : IsAtCutPoint tasks k number h → IsAtCutPoint others k number g
        → AreStepsTogether Led (hart_step k.code.words h) (hart_step k.code.words g)
    start-together (inl user) (inl used) = user-together user.0 used.0 user.1 used.1
    start-together (inl user) (inr (inl ready)) = absurd (user-alone h.csrs g.csrs alike.csrs user.1.user.mode ready.1.hart.mode)
    start-together (inl user) (inr (inr (inl done))) = absurd (user-alone h.csrs g.csrs alike.csrs user.1.user.mode done.1.hart.mode)
    start-together (inl user) (inr (inr (inr (inl takes)))) = absurd (user-alone h.csrs g.csrs alike.csrs user.1.user.mode takes.hart.mode)
    start-together (inl user) (inr (inr (inr (inr idle)))) = absurd (user-alone h.csrs g.csrs alike.csrs user.1.user.mode idle.hart.mode)
    start-together (inr (inl ready)) (inl used) = absurd (machine-alone h.csrs g.csrs alike.csrs ready.1.hart.mode used.1.user.mode)
    start-together (inr (inl ready)) (inr (inl given)) =
        together-as Led (hart_step k.code.words h) (hart_step k.code.words g) _ _
        (wants-give-ready k kernel.linked tasks number h ready.0 ready.1) (wants-give-ready k kernel.linked others number g given.0 given.1) (refl, refl, refl)
    start-together (inr (inl ready)) (inr (inr (inl done))) = let e = one-place _ _ ready.1.hart.pc done.1.hart.pc in absurd (omega (arith, e))
    start-together (inr (inl ready)) (inr (inr (inr (inl takes)))) = let e = one-place _ _ ready.1.hart.pc takes.hart.pc in absurd (omega (arith, e))
    start-together (inr (inl ready)) (inr (inr (inr (inr idle)))) = let e = one-place _ _ ready.1.hart.pc idle.hart.pc in absurd (omega (arith, e))
    start-together (inr (inr (inl done))) (inl used) = absurd (machine-alone h.csrs g.csrs alike.csrs done.1.hart.mode used.1.user.mode)
    start-together (inr (inr (inl done))) (inr (inl given)) = let e = one-place _ _ done.1.hart.pc given.1.hart.pc in absurd (omega (arith, e))
    start-together (inr (inr (inl done))) (inr (inr (inl ended))) =
        together-as Led (hart_step k.code.words h) (hart_step k.code.words g) _ _
        (wants-give-done k kernel.linked tasks number h done.0 done.1) (wants-give-done k kernel.linked others number g ended.0 ended.1) (refl, refl, refl)
    start-together (inr (inr (inl done))) (inr (inr (inr (inl takes)))) = let e = one-place _ _ done.1.hart.pc takes.hart.pc in absurd (omega (arith, e))
    start-together (inr (inr (inl done))) (inr (inr (inr (inr idle)))) = let e = one-place _ _ done.1.hart.pc idle.hart.pc in absurd (omega (arith, e))
    start-together (inr (inr (inr (inl takes)))) (inl used) = absurd (machine-alone h.csrs g.csrs alike.csrs takes.hart.mode used.1.user.mode)
    start-together (inr (inr (inr (inl takes)))) (inr (inl given)) = let e = one-place _ _ takes.hart.pc given.1.hart.pc in absurd (omega (arith, e))
    start-together (inr (inr (inr (inl takes)))) (inr (inr (inl ended))) = let e = one-place _ _ takes.hart.pc ended.1.hart.pc in absurd (omega (arith, e))
    start-together (inr (inr (inr (inl takes)))) (inr (inr (inr (inl taken)))) =
        together-as Led (hart_step k.code.words h) (hart_step k.code.words g) _ _
        (wants-take k kernel.linked tasks number h takes) (wants-take k kernel.linked others number g taken) (refl, refl, refl)
    start-together (inr (inr (inr (inl takes)))) (inr (inr (inr (inr idle)))) = let e = one-place _ _ takes.hart.pc idle.hart.pc in absurd (omega (arith, e))
    start-together (inr (inr (inr (inr idle)))) (inl used) = absurd (machine-alone h.csrs g.csrs alike.csrs idle.hart.mode used.1.user.mode)
    start-together (inr (inr (inr (inr idle)))) (inr (inl given)) = let e = one-place _ _ idle.hart.pc given.1.hart.pc in absurd (omega (arith, e))
    start-together (inr (inr (inr (inr idle)))) (inr (inr (inl ended))) = let e = one-place _ _ idle.hart.pc ended.1.hart.pc in absurd (omega (arith, e))
    start-together (inr (inr (inr (inr idle)))) (inr (inr (inr (inl taken)))) = let e = one-place _ _ idle.hart.pc taken.hart.pc in absurd (omega (arith, e))
    start-together (inr (inr (inr (inr idle)))) (inr (inr (inr (inr idler)))) =
        let one = idles k kernel.linked tasks number h idle in
        let two = idles k kernel.linked others number g idler in
        let by = machine-step-at k.code.words h (idle_at k) (Jal 0 (pos 0)) idle.hart.mode idle.hart.pc kernel.linked.idle in
        let by_too = machine-step-at k.code.words g (idle_at k) (Jal 0 (pos 0)) idler.hart.mode idler.hart.pc kernel.linked.idle in
        let decided : DecidesAlike h g (Jal 0 (pos 0)) = tt in
        let steps = alike-as _ _ (hart_step k.code.words h) (hart_step k.code.words g) (sym by) (sym by_too)
        (machine-alike h g (Jal 0 (pos 0)) alike decided) in
        go-together-steps Led (hart_step k.code.words h) (hart_step k.code.words g)
        (went-alike Led (hart_step k.code.words h) (hart_step k.code.words g) one.after two.after one.probes two.probes _ _ one.step_is two.step_is steps
        (λ left. (0, record { start = inr (inr (inr (inr one.hart))); other = inr (inr (inr (inr two.hart))); alike = left })))
