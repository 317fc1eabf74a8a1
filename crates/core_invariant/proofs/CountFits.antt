-- The count of what a hart on its way holds is within the fuel that a task may have.
use Rattle.std.proofs.Common.{◌≡◌, ℕ, zero, suc, ◌+◌, ◌≤◌, inl, inr, Bool, true, false, List, slice_get, Option, Some, None, is_none, if◌then◌else◌, sym, subst, arith}
use Rattle.isa_model.specs.declared.task.Task.{Task}
use Rattle.isa_model.specs.TaskPlaces.{IsValidTask}
use Rattle.isa_model.specs.Alone.{alone_at, count_to}
use Rattle.hart_model.specs.Context.{ContextState}
use Rattle.hart_model.specs.HartState.{HartState}
use Rattle.core_model.specs.Routines.{HoldsSame, IsReadyContext}
use Rattle.symbolic_run.proofs.Ways.{leads-back}
use Rattle.core_invariant.specs.KernelStates.{KernelParts}
use Rattle.core_invariant.specs.CutPoints.{IsDoneContext, IsAtCutPoint, IsOnItsWay}
use Rattle.core_invariant.specs.Invariant.{HeldCountFits}

-- counting so far goes no further than the number of instructions
counts_or_not : (b : Bool) (m n : ℕ) → m ≤ n → (if b then m + 1 else m) ≤ suc n
counts_or_not true m n le = omega arith
counts_or_not false m n le = omega arith

count_within : (T : Task) (n : ℕ) → count_to T n ≤ n
unfolding count_to
count_within T zero = omega arith
count_within T (suc n) = counts_or_not (is_none (alone_at T n).end) (count_to T n) n (count_within T n)

-- what is held is this
held_is : (held : Option ContextState) (c : ContextState) → held ≡ Some c → c.body.count ≤ 100000 → HeldCountFits held
held_is held c is fits = subst HeldCountFits (sym is) fits

-- a step leaves the count as it is
before_step : (before after : Option ContextState) → HoldsSame before after → HeldCountFits after → HeldCountFits before
before_step None after same fits = tt
before_step (Some c) None same fits = absurd same
before_step (Some c) (Some d) same fits = let count = same.count in omega arith

module _ (k : KernelParts) (tasks : List Task) (number : ℕ) (valid : (t : ℕ) (task : Task) → slice_get tasks t ≡ Some task → IsValidTask task) where
  -- a ready context is within its fuel; an ended one has the count of its whole run
  ready_fits : (c : ContextState) → IsReadyContext tasks c → c.body.count ≤ 100000
  ready_fits c can = let within = can.within in let limit = can.valid.fuel_limit in omega arith

  done_fits : (c : ContextState) → IsDoneContext tasks c → c.body.count ≤ 100000
  done_fits c done =
      let task = done.ended.task in
      let is = done.ended.count in
      let within = count_within task task.fuel in
      let limit = (valid c.body.task_no task done.ended.is_task).fuel_limit in
      omega arith

  -- where a hart stands between its ways
  start_fits : (h : HartState) → IsAtCutPoint tasks k number h → HeldCountFits h.held
  start_fits h (inl (c, at)) =
      let within = at.within in
      let limit = at.valid.fuel_limit in
      held_is h.held c at.user.held (omega arith)
  start_fits h (inr (inl (c, at))) = held_is h.held c at.held (ready_fits c at.given)
  start_fits h (inr (inr (inl (c, at)))) = held_is h.held c at.held (done_fits c at.given)
  start_fits h (inr (inr (inr (inl at)))) = subst HeldCountFits (sym at.held) tt
  start_fits h (inr (inr (inr (inr at)))) = subst HeldCountFits (sym at.held) tt

-- On its way, what a hart holds has a count within the fuel that a task may have.
pub count-fits : (k : KernelParts) (tasks : List Task) (number : ℕ)
    → ((t : ℕ) (task : Task) → slice_get tasks t ≡ Some task → IsValidTask task)
    → (h : HartState) → IsOnItsWay tasks k number h → HeldCountFits h.held
count-fits k tasks number valid h way =
    leads-back tasks k.code.words number (IsAtCutPoint tasks k number) (λ g. HeldCountFits g.held) (start_fits k tasks number valid)
    (λ g goes. before_step g.held goes.after.held goes.holds goes.there) way.0 h way.1
