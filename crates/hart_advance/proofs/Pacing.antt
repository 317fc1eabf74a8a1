-- The tick and the number of instructions that ran, as code has them and as the definition does.
use Rattle.std.proofs.Common.{◌≡◌, ◌≢◌, ℕ, ◌+◌, ◌==◌, ◌⊎◌, inl, inr, Bool, true, false, not, ◌&&◌, List, Option, Some, None, refl, sym, ap, ◌∙◌, subst, arith, if◌then◌else◌}
use Rattle.std.proofs.lemmas.Bool.{eqb-true, eqb-false, eq-eqb, ne_eqb}
use Rattle.isa_model.specs.declared.task.Task.{Task}
use Rattle.hart_model.specs.declared.tag.Mode.{Mode}
use Rattle.hart_model.specs.declared.tag.Mode.TheVariants.{User, Machine}
use Rattle.hart_model.specs.Csrs.{CsrFile}
use Rattle.hart_model.specs.Traps.{interrupt_of, fuel_cause, timer_cause}
use Rattle.hart_model.specs.Context.{ContextState}
use Rattle.hart_model.specs.HartState.{HartState, tick_of}
use Rattle.hart_model.specs.StepResult.{StepResult, Steps, Wants, Wedged, hart_after}
use Rattle.hart_model.specs.UserStep.{is_fuel_used, user_step}
use Rattle.hart_model.specs.HartStep.{hart_step, step_by_mode}
use Rattle.core_model.specs.declared.plan.Plan.{Plan}
use Rattle.core_model.specs.Plans.{quantum_after}
use Rattle.core_model.specs.Soundness.{IsHartSound}
use Rattle.core_model.specs.Routines.{ticked_if}
use Rattle.core_model.specs.Orders.{HartPace, held_count, is_user, is_tick_due}
use Rattle.timer_plan.specs.Pace.{PaceState}
use Rattle.order_laws.proofs.UserCounts.{StepCounts, KeepsCount, count_held, one_more, user-counts, interrupt-counts, machine-counts}
use Rattle.hart_advance.specs.Pacing.{IsPaceOf, due_hart, is_quantum_over, counted}

-- two sums are equal exactly where what is added is
sum-test : (a m n : ℕ) → (a + m == a + n) ≡ (m == n)
sum-test a m n = by-test (m == n) refl
  where
    by-test : (b : Bool) → (m == n) ≡ b → (a + m == a + n) ≡ b
    by-test true e = eq-eqb (a + m) (a + n) (let same = eqb-true m n e in omega (arith, same))
    by-test false e = ne_eqb (a + m) (a + n) (λ f. eqb-false m n e (omega (arith, f)))

-- a tick of a pending timer changes nothing
tick-pending : (h : HartState) → h.csrs.is_timer_pending ≡ true → tick_of h ≡ h
tick-pending h e = ap (λ b. record h { csrs = record h.csrs { is_timer_pending = b } }) (sym e)

module _ (plan : Plan) (progress : HartPace) (h : HartState) (v : PaceState) (is : IsPaceOf plan progress h v) where
  -- the test of the quantum
  quantum-test : (c : ContextState) → h.held ≡ Some c
      → (held_count h.held == progress.taken_at + quantum_after plan progress.takes) ≡ (v.ran == v.quantum)
  quantum-test c held =
      let count : held_count h.held ≡ progress.taken_at + is.ran = ap held_count held ∙ sym (is.counts c held) in
      ap (λ n. n == progress.taken_at + quantum_after plan progress.takes) count
      ∙ sum-test progress.taken_at is.ran (quantum_after plan progress.takes)
      ∙ sym (ap (λ (x : PaceState). x.ran == x.quantum) is.drawn)

  -- what code makes of the hart is the hart before its next step
  pub tick-same : (h.csrs.mode ≡ User → (c : ContextState) × (h.held ≡ Some c)) → ticked_if (is_quantum_over h v) h ≡ due_hart plan progress h
  tick-same user = by-mode h.csrs.mode refl
    where
      by-mode : (mode : Mode) → h.csrs.mode ≡ mode → ticked_if (is_quantum_over h v) h ≡ due_hart plan progress h
      by-mode Machine e = rw e refl
      by-mode User e = by-pending h.csrs.is_timer_pending refl
        where
          code-test : is_quantum_over h v ≡ (not (is_fuel_used h.held) && (v.ran == v.quantum))
          code-test = ap (λ (m : Mode). is_user m && not (is_fuel_used h.held) && (v.ran == v.quantum)) e

          plan-test : (pending : Bool) → h.csrs.is_timer_pending ≡ pending
              → is_tick_due plan progress h ≡ (not pending && not (is_fuel_used h.held) && (v.ran == v.quantum))
          plan-test pending q =
              let held = user e in
              ap (λ (m : Mode). is_user m && not h.csrs.is_timer_pending && not (is_fuel_used h.held)
              && (held_count h.held == progress.taken_at + quantum_after plan progress.takes)) e
              ∙ ap (λ b. not b && not (is_fuel_used h.held) && (held_count h.held == progress.taken_at + quantum_after plan progress.takes)) q
              ∙ ap (λ b. not pending && not (is_fuel_used h.held) && b) (quantum-test held.0 held.1)

          by-over : (used over : Bool) → h.csrs.is_timer_pending ≡ true → ticked_if (not used && over) h ≡ h
          by-over true over q = refl
          by-over false true q = tick-pending h q
          by-over false false q = refl

          by-pending : (pending : Bool) → h.csrs.is_timer_pending ≡ pending → ticked_if (is_quantum_over h v) h ≡ due_hart plan progress h
          by-pending true q =
              ap (λ b. ticked_if b h) code-test
              ∙ by-over (is_fuel_used h.held) (v.ran == v.quantum) q
              ∙ sym (ap (λ b. ticked_if b h) (plan-test true q))
          by-pending false q = ap (λ b. ticked_if b h) code-test ∙ sym (ap (λ b. ticked_if b h) (plan-test false q))

-- what a step makes of the count
abbrev pub CountsBy : HartState → PaceState → HartState → Type 0
CountsBy h v g = (count_held g.held ≡ count_held h.held) ⊎ ((count_held g.held ≡ one_more (count_held h.held)) × (v.ran ≢ v.quantum))

-- the interrupt of a hart in user mode
user-interrupt : (c : CsrFile) (used pending : Bool) → c.mode ≡ User → c.is_fuel_enabled ≡ true → c.is_timer_enabled ≡ true
    → c.is_timer_pending ≡ pending → interrupt_of c used ≡ (if used then Some fuel_cause else if pending then Some timer_cause else None)
user-interrupt c true pending mode fuel timer p = rw (mode, fuel) refl
user-interrupt c false true mode fuel timer p = rw (mode, timer, p) refl
user-interrupt c false false mode fuel timer p = rw (mode, timer, p) refl

module _ (code : List ℕ) (number : ℕ) (tasks : List Task) (h : HartState) (v : PaceState) where
  abbrev f : HartState
  f = ticked_if (is_quantum_over h v) h

  -- a step of the hart after the tick of code
  pub step-counts : IsHartSound tasks number f → CountsBy f v (hart_after f (hart_step code f))
  step-counts sound = by-mode f.csrs.mode refl
    where
      by-machine : (step : StepResult) → KeepsCount f step → CountsBy f v (hart_after f step)
      by-machine (Steps g probes did) keeps = inl keeps
      by-machine (Wants call early_writes rd next) keeps = inl refl
      by-machine Wedged keeps = inl refl

      by-stay : (step : StepResult) → StepCounts f (count_held f.held) step → CountsBy f v (hart_after f step)
      by-stay (Steps g probes did) counts = inl counts.count_is
      by-stay (Wants call early_writes rd next) counts = inl refl
      by-stay Wedged counts = inl refl

      by-more : v.ran ≢ v.quantum → (step : StepResult) → StepCounts f (one_more (count_held f.held)) step → CountsBy f v (hart_after f step)
      by-more ne (Steps g probes did) counts = inr (counts.count_is, ne)
      by-more ne (Wants call early_writes rd next) counts = inl refl
      by-more ne Wedged counts = inl refl

      by-mode : (mode : Mode) → f.csrs.mode ≡ mode → CountsBy f v (hart_after f (hart_step code f))
      by-mode Machine e = by-machine (hart_step code f) (machine-counts code f e)
      by-mode User e =
          let P : Mode → Type 0 = λ m. CountsBy f v (hart_after f (step_by_mode code f m)) in
          subst P (sym e) (by-interrupt (interrupt_of f.csrs (is_fuel_used f.held)) refl)
        where
          by-interrupt : (o : Option ℕ) → interrupt_of f.csrs (is_fuel_used f.held) ≡ o → CountsBy f v (hart_after f (user_step f))
          by-interrupt (Some cause) i = by-stay (user_step f) (interrupt-counts f cause i)
          by-interrupt None i = by-more (λ same. not-over same) (user_step f) (user-counts f i)
            where
              not-over : v.ran ≡ v.quantum → ⊥
              not-over same = by-used (is_fuel_used h.held) refl
                where
                  over-test : (v.ran == v.quantum) ≡ true
                  over-test = eq-eqb v.ran v.quantum same

                  held-same : (b : Bool) → (ticked_if b h).held ≡ h.held
                  held-same true = refl
                  held-same false = refl

                  mode-same : (b : Bool) → (ticked_if b h).csrs.mode ≡ h.csrs.mode
                  mode-same true = refl
                  mode-same false = refl

                  user : h.csrs.mode ≡ User
                  user = sym (mode-same (is_quantum_over h v)) ∙ e

                  by-used : (used : Bool) → is_fuel_used h.held ≡ used → ⊥
                  by-used true u =
                      let there : is_fuel_used f.held ≡ true = ap is_fuel_used (held-same (is_quantum_over h v)) ∙ u in
                      let used = user-interrupt f.csrs true f.csrs.is_timer_pending e sound.csrs.fuel sound.csrs.timer refl in
                      let none = sym i ∙ ap (interrupt_of f.csrs) there ∙ used in
                      cc none
                  by-used false u =
                      let over : is_quantum_over h v ≡ true = rw (user, u, over-test) refl in
                      let pending : f.csrs.is_timer_pending ≡ true = ap (λ b. (ticked_if b h).csrs.is_timer_pending) over in
                      let there : is_fuel_used f.held ≡ false = ap is_fuel_used (held-same (is_quantum_over h v)) ∙ u in
                      let left = user-interrupt f.csrs false true e sound.csrs.fuel sound.csrs.timer pending in
                      let some = sym i ∙ ap (interrupt_of f.csrs) there ∙ left in
                      cc some

-- the pace after a step by which the count stayed, and by which it rose
module _ (plan : Plan) (progress : HartPace) (f g : HartState) (v : PaceState) (is : IsPaceOf plan progress f v) where
  pub pace-stays : count_held g.held ≡ count_held f.held → IsPaceOf plan progress g v
  pace-stays same = record { ran = is.ran; drawn = is.drawn; counts = λ d held. by-held f.held refl d held }
    where
      by-held : (o : Option ContextState) → f.held ≡ o → (d : ContextState) → g.held ≡ Some d → progress.taken_at + is.ran ≡ d.body.count
      by-held None none d held =
          let e : None ≡ Some d.body.count = sym (ap count_held none) ∙ sym same ∙ ap count_held held in absurd (cc e)
      by-held (Some c) some d held =
          let e : Some c.body.count ≡ Some d.body.count = sym (ap count_held some) ∙ sym same ∙ ap count_held held in
          let counts : c.body.count ≡ d.body.count = cc e in is.counts c some ∙ counts

  pub pace-ran : count_held g.held ≡ one_more (count_held f.held) → IsPaceOf plan progress g (record v { ran = v.ran + 1 })
  pace-ran more = record {
    ran = is.ran + 1;
    drawn = ap (λ (x : PaceState). record x { ran = x.ran + 1 }) is.drawn;
    counts = λ d held. by-held f.held refl d held;
  }
    where
      by-held : (o : Option ContextState) → f.held ≡ o → (d : ContextState) → g.held ≡ Some d → progress.taken_at + (is.ran + 1) ≡ d.body.count
      by-held None none d held =
          let e : None ≡ Some d.body.count = sym (ap (λ x. one_more (count_held x)) none) ∙ sym more ∙ ap count_held held in absurd (cc e)
      by-held (Some c) some d held =
          let e : Some (c.body.count + 1) ≡ Some d.body.count = sym (ap (λ x. one_more (count_held x)) some) ∙ sym more ∙ ap count_held held in
          let counts : c.body.count + 1 ≡ d.body.count = cc e in
          let before = is.counts c some in omega (arith, counts, before)

-- the number of a count
abbrev number-of : Option ℕ → ℕ
number-of None = 0
number-of (Some n) = n

held-number : (held : Option ContextState) → held_count held ≡ number-of (count_held held)
held-number None = refl
held-number (Some c) = refl

same-number : (f g : Option ContextState) → count_held g ≡ count_held f → (held_count f == held_count g) ≡ true
same-number f g same = eq-eqb (held_count f) (held_count g) (held-number f ∙ sym (ap number-of same) ∙ sym (held-number g))

-- an instruction more, where something is held
more-number : (f g : Option ContextState) (c : ContextState) → f ≡ Some c → count_held g ≡ one_more (count_held f)
    → (held_count f == held_count g) ≡ false
more-number f g c some more =
    let before : held_count f ≡ c.body.count = ap held_count some in
    let after : held_count g ≡ c.body.count + 1 = held-number g ∙ ap number-of more ∙ ap (λ o. number-of (one_more (count_held o))) some in
    ne_eqb (held_count f) (held_count g) (λ same. (omega (arith, before, after, same)))

module _ (plan : Plan) (progress : HartPace) (f g : HartState) (v : PaceState) (is : IsPaceOf plan progress f v) where
  -- the pace that code has after a step
  pub pace-after : CountsBy f v g → IsPaceOf plan progress g (counted (held_count f.held == held_count g.held) v)
  pace-after by = by-case by
    where
      Paced : Bool → Type 0
      Paced b = IsPaceOf plan progress g (counted b v)

      by-same : count_held g.held ≡ count_held f.held → Paced (held_count f.held == held_count g.held)
      by-same same = subst Paced (sym (same-number f.held g.held same)) (pace-stays plan progress f g v is same)

      by-held : (o : Option ContextState) → f.held ≡ o → count_held g.held ≡ one_more (count_held f.held)
          → Paced (held_count f.held == held_count g.held)
      by-held None none more = by-same (more ∙ ap (λ x. one_more (count_held x)) none ∙ sym (ap count_held none))
      by-held (Some c) some more = subst Paced (sym (more-number f.held g.held c some more)) (pace-ran plan progress f g v is more)

      by-case : CountsBy f v g → Paced (held_count f.held == held_count g.held)
      by-case (inl same) = by-same same
      by-case (inr (more, ne)) = by-held f.held refl more

-- where the number is another one, the quantum was not over
pub ran-may : (f g : HartState) (v : PaceState) → CountsBy f v g → held_count f.held ≢ held_count g.held → v.ran ≢ v.quantum
ran-may f g v (inl same) ne = absurd (ne (held-number f.held ∙ sym (ap number-of same) ∙ sym (held-number g.held)))
ran-may f g v (inr (more, not_over)) ne = not_over
