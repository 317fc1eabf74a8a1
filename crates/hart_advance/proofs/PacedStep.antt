-- A step under a plan, as code makes it and as the definition does.
use Rattle.std.proofs.Common.{◌≡◌, ◌≢◌, ℕ, ◌==◌, Bool, true, false, List, slice_get, Option, Some, None, refl, sym, ap, ◌∙◌, subst, arith}
use Rattle.std.proofs.lemmas.Option.{slice_get_within, get_or_from_slice_get}
use Rattle.isa_model.specs.declared.task.Task.{Task}
use Rattle.isa_model.specs.TaskPlaces.{IsValidTask}
use Rattle.hart_model.specs.Context.{ContextState}
use Rattle.hart_model.specs.HartState.{HartState}
use Rattle.hart_model.specs.StepResult.{hart_after}
use Rattle.hart_model.specs.HartStep.{hart_step}
use Rattle.hart_state.specs.UserDeed.{CanCount}
use Rattle.core_model.specs.declared.plan.Plan.{Plan}
use Rattle.core_model.specs.Routines.{ticked_if}
use Rattle.core_model.specs.Orders.{HartPace, held_count}
use Rattle.symbolic_run.proofs.Paths.{paths-lead}
use Rattle.symbolic_run.proofs.StepsTaken.{steps-taken}
use Rattle.core_invariant.specs.KernelStates.{KernelParts}
use Rattle.core_invariant.specs.CutPoints.{IsOnItsWay}
use Rattle.core_invariant.specs.Invariant.{HeldCountFits}
use Rattle.core_invariant.specs.OneHart.{EachHart}
use Rattle.core_invariant.proofs.CountFits.{count-fits}
use Rattle.core_invariant.proofs.EachHart.{each-hart}
use Rattle.timer_plan.specs.Pace.{PaceState}
use Rattle.hart_advance.specs.Pacing.{IsPaceOf, IsUnderKernel, due_hart, is_quantum_over, counted}
use Rattle.hart_advance.proofs.Pacing.{CountsBy, tick-same, step-counts, pace-after, ran-may}

pub count_fits : (held : Option ContextState) → HeldCountFits held → CanCount held
count_fits None fits = tt
count_fits (Some c) fits = omega (arith, fits)

module _ (code : List ℕ) (h : HartState) (v : PaceState) (under : IsUnderKernel code h) where
  abbrev k : KernelParts
  k = under.kernel

  one : EachHart under.loaded.tasks k
  one = each-hart k under.is_kernel (paths-lead steps-taken) under.loaded.tasks

  abbrev pub ticked : HartState
  ticked = ticked_if (is_quantum_over h v) h

  ticks-way : (b : Bool) → IsOnItsWay under.loaded.tasks k under.number (ticked_if b h)
  ticks-way true = one.ticks under.number h under.way
  ticks-way false = under.way

  valid : (t : ℕ) (task : Task) → slice_get under.loaded.tasks t ≡ Some task → IsValidTask task
  valid t task is =
      let low = slice_get_within under.loaded.tasks t task is in
      subst IsValidTask (get_or_from_slice_get under.loaded.tasks t task task is) (under.within.tasks t task low).valid

  -- the count has room
  pub can-count : CanCount ticked.held
  can-count = count_fits ticked.held (count-fits k under.loaded.tasks under.number valid ticked (ticks-way (is_quantum_over h v)))

  -- what the step makes of the count
  pub counts-by : CountsBy ticked v (hart_after ticked (hart_step code ticked))
  counts-by = step-counts code under.number under.loaded.tasks h v (one.is_sound under.number ticked (ticks-way (is_quantum_over h v)))

  module _ (plan : Plan) (progress : HartPace) (is : IsPaceOf plan progress h v) where
    -- it is the hart of the definition
    pub same-hart : ticked ≡ due_hart plan progress h
    same-hart = tick-same plan progress h v is (λ e. let user = (one.is_sound under.number h under.way).user e in (user.0, user.1.held))

    held-same : (b : Bool) → (ticked_if b h).held ≡ h.held
    held-same true = refl
    held-same false = refl

    -- of the same pace
    pub pace-ticked : IsPaceOf plan progress ticked v
    pace-ticked = record { ran = is.ran; drawn = is.drawn; counts = λ c held. is.counts c (sym (held-same (is_quantum_over h v)) ∙ held) }

-- The step of code: the hart that was ticked, the hart after its step, and the two numbers of instructions.
module _ (code : List ℕ) (h : HartState) (v : PaceState) (under : IsUnderKernel code h) (t : HartState)
    (tick : t ≡ ticked_if (is_quantum_over h v) h) where
  pub may-count : CanCount t.held
  may-count = let P : HartState → Type 0 = λ x. CanCount x.held in subst P (sym tick) (can-count code h v under)

  pub hart-due : (plan : Plan) (progress : HartPace) → IsPaceOf plan progress h v → t ≡ due_hart plan progress h
  hart-due plan progress is = tick ∙ same-hart code h v under plan progress is

  module _ (g : HartState) (after : g ≡ hart_after t (hart_step code t)) (m n : ℕ) (is_m : m ≡ held_count t.held) (is_n : n ≡ held_count g.held) where
    counts : CountsBy t v g
    counts =
        let P : HartState → Type 0 = λ x. CountsBy x v (hart_after x (hart_step code x)) in
        let Q : HartState → Type 0 = λ x. CountsBy t v x in
        subst Q (sym after) (subst P (sym tick) (counts-by code h v under))

    pub may-run : m ≢ n → v.ran ≢ v.quantum
    may-run ne = ran-may t g v counts (λ same. ne (is_m ∙ same ∙ sym is_n))

    pub pace-now : (plan : Plan) (progress : HartPace) → IsPaceOf plan progress h v → (w : PaceState) → w ≡ counted (m == n) v
        → IsPaceOf plan progress g w
    pace-now plan progress is w is_w =
        let P : HartState → Type 0 = λ x. IsPaceOf plan progress x v in
        let Q : PaceState → Type 0 = λ x. IsPaceOf plan progress g x in
        let test : (m == n) ≡ (held_count t.held == held_count g.held) = ap (λ x. x == n) is_m ∙ ap (λ x. held_count t.held == x) is_n in
        subst Q (ap (λ b. counted b v) (sym test) ∙ sym is_w)
        (pace-after plan progress t g v (subst P (sym tick) (pace-ticked code h v under plan progress is)) counts)
