-- The cells of a hart after an instruction in user mode, and the entries of the instruction.
use Rattle.std.proofs.Common.{◌≡◌, ℕ, ◌+◌, ◌<◌, inl, inr, List, [], ◌∷◌, map, All, Option, Some, None, slice_get, refl, ap, sym, ◌∙◌, subst}
use Rattle.std.proofs.lemmas.List.Elements.{All-nil, All-cons, All-head, All-tail}
use Rattle.isa_model.specs.declared.task.Task.{Task}
use Rattle.isa_model.specs.declared.latch.Latch.{Latch}
use Rattle.isa_model.specs.Effect.{Write}
use Rattle.isa_model.specs.Alone.{AloneState, alone_at}
use Rattle.isa_model.specs.AloneValue.{alone_value}
use Rattle.hart_model.specs.declared.calls.Did.{Did}
use Rattle.hart_model.specs.declared.probe.Probe.{Probe}
use Rattle.hart_model.specs.declared.tag.Cell.{Cell}
use Rattle.hart_model.specs.declared.tag.Mode.TheVariants.{User}
use Rattle.hart_model.specs.Taint.{user_tag}
use Rattle.hart_model.specs.Probes.{probe_of}
use Rattle.hart_model.specs.Traps.{interrupt_of}
use Rattle.hart_model.specs.Context.{ContextState, task_of}
use Rattle.hart_model.specs.HartState.{HartState, hart_cell, latch_cell}
use Rattle.hart_model.specs.StepResult.{StepResult, Steps, hart_after}
use Rattle.hart_model.specs.UserStep.{latch_value, value_of_cell, user_step, is_fuel_used}
use Rattle.hart_model.specs.UserLaws.{IsTaskLatch, IsRunLatch, WritesOwn, IsOwnOrKept, written_value, cell_or_blank, user_entry}
use Rattle.hart_model.proofs.UserWritesOwn.{run_place, cell_of_run}
use Rattle.hart_model.proofs.UserStepWrites.{user_step_writes_own}
use Rattle.core_model.specs.Explained.{IsExplained}
use Rattle.core_model.specs.Routines.{IsUserState}
use Rattle.core_invariant.proofs.OwnCells.{IsNext, entry-explained}
use Rattle.core_invariant.proofs.UserStands.{at-run-alone, latch-own, values-alone}
use Rattle.core_invariant.proofs.UserTruth.{HasStepped}

module _ (tasks : List Task) (number : ℕ) (h : HartState) (c : ContextState) (is : IsUserState tasks number h c)
    (none : interrupt_of h.csrs (is_fuel_used h.held) ≡ None) where
  abbrev T : Task
  T = task_of c.body

  abbrev n : ℕ
  n = c.body.count

  abbrev s : AloneState
  s = alone_at T n

  pub writes-own : WritesOwn T s h c
  writes-own = user_step_writes_own T is.valid s h c (at-run-alone tasks number h c is) none

  -- the hart after the step
  module _ (g : HartState) (d : ContextState) (probes : List Probe) (did : Did) (step : user_step h ≡ Steps g probes did) (stepped : HasStepped h c g d) where
    own_or_kept : (l : Latch) → IsRunLatch T l → IsOwnOrKept T s h c g l
    own_or_kept l run = subst (λ (r : StepResult). IsOwnOrKept T s h c (hart_after h r) l) step (writes-own.cells l run)

    -- the value of a written latch
    pub value-written : (l : Latch) → IsTaskLatch T l → IsRunLatch T l → latch_value g l ≡ written_value T s l
    value-written l task run = elim (own_or_kept l run) [
      | inl own ↦ ap (λ (o : Option Cell). value_of_cell o) own
      | inr kept ↦ ap (λ (o : Option Cell). value_of_cell o) kept.0 ∙ values-alone tasks number h c is l task ∙ sym kept.1
    ]

    some_cell : (a b : Cell) → Some a ≡ Some b → a ≡ b
    some_cell a b e = cc

    now_at : (l : Latch) → IsRunLatch T l → latch_cell g l ≡ Some (hart_cell g (run_place T l))
    now_at l run = cell_of_run g d T l stepped.held stepped.task is.valid (subst (λ (k : ℕ). k < 8) (sym stepped.slot) is.slot) run

    was_at : (l : Latch) → IsRunLatch T l → latch_cell h l ≡ Some (hart_cell h (run_place T l))
    was_at l run = cell_of_run h c T l is.user.held refl is.valid is.slot run

    -- Each latch that an instruction may write was written by this one, or was not.
    pub latch-next : (l : Latch) → IsRunLatch T l → alone_value T (n + 1) l ≡ written_value T s l
        → IsNext T c.body.task_no n l (hart_cell h (run_place T l)) (hart_cell g (run_place T l))
    latch-next l run now = elim (own_or_kept l run) [
      | inl own ↦
          inl (some_cell _ _ (sym (now_at l run) ∙ own) ∙ ap (λ (v : ℕ). record { value = v; tag = user_tag c.body.task_no n l }) (sym now))
      | inr kept ↦ inr (some_cell _ _ (sym (now_at l run) ∙ kept.0 ∙ was_at l run), now ∙ kept.1)
    ]

  -- The entries of the step are explained, where the run alone has the values that were written.
  explained_one : slice_get tasks c.body.task_no ≡ Some T → (w : Write) → IsRunLatch T w.to → w.value ≡ written_value T s w.to
      → alone_value T (n + 1) w.to ≡ written_value T s w.to → IsExplained tasks (user_entry h c.body w)
  explained_one is_task w run value now =
      let was : latch_cell h w.to ≡ Some (hart_cell h (run_place T w.to)) = cell_of_run h c T w.to is.user.held refl is.valid is.slot run in
      let new : Cell = record { value = w.value; tag = user_tag c.body.task_no n w.to } in
      subst (λ (o : Option Cell). IsExplained tasks (probe_of h.csrs.hart h.pc User w.to (cell_or_blank o) new))
      (sym was)
      (entry-explained T c.body.task_no n w.to tasks h.csrs.hart h.pc w.value (hart_cell h (run_place T w.to)) is_task (value ∙ sym now)
      (latch-own tasks number h c is w.to run))

  pub all-explained : slice_get tasks c.body.task_no ≡ Some T → ((l : Latch) → IsRunLatch T l → alone_value T (n + 1) l ≡ written_value T s l)
      → (ws : List Write) → All (λ (w : Write). IsRunLatch T w.to) ws → All (λ (w : Write). w.value ≡ written_value T s w.to) ws
      → All (IsExplained tasks) (map (user_entry h c.body) ws)
  all-explained is_task now [] run values = All-nil (IsExplained tasks)
  all-explained is_task now (w ∷ ws) run values =
      let here : IsRunLatch T w.to = All-head (λ (x : Write). IsRunLatch T x.to) w ws run in
      All-cons (IsExplained tasks) (user_entry h c.body w) (map (user_entry h c.body) ws)
      (explained_one is_task w here (All-head (λ (x : Write). x.value ≡ written_value T s x.to) w ws values) (now w.to here))
      (all-explained is_task now ws (All-tail (λ (x : Write). IsRunLatch T x.to) w ws run)
      (All-tail (λ (x : Write). x.value ≡ written_value T s x.to) w ws values))
