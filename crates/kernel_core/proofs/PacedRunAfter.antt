-- A board and harts after a step of a hart under its plan: as the events say, and kept.
use Rattle.std.proofs.Common.{◌≡◌, ℕ, ◌+◌, ◌<◌, Bool, true, false, List, set, length, length-set, slice_get, Option, Some, None, refl, sym, ap, ◌∙◌, subst}
use Rattle.std.proofs.lemmas.List.{set-set}
use Rattle.hart_model.specs.HartState.{HartState}
use Rattle.core_model.specs.declared.event.Event.TheVariants.{Go}
use Rattle.core_model.specs.declared.action.Action.{Action}
use Rattle.core_model.specs.declared.loaded.Loaded.{Loaded}
use Rattle.core_model.specs.declared.plan.Plan.{Plan}
use Rattle.core_model.specs.Board.{BoardWithSpare}
use Rattle.core_model.specs.BoardStep.{board_step_of}
use Rattle.core_model.specs.Core.{CoreAndAction}
use Rattle.core_model.specs.Routines.{ticked_if}
use Rattle.core_model.specs.Orders.{HartPace, is_tick_due}
use Rattle.core_invariant.proofs.Items.{get-set_same, set-same}
use Rattle.hart_advance.specs.Pacing.{IsUnderKernel, due_hart}
use Rattle.kernel_core.specs.BoardStep.{CanGo, IsAfterBoardStep}
use Rattle.kernel_core.specs.Running.{RunValue, IsRunKept, IsAfterEvent, event_on, entries_of}
use Rattle.kernel_core.specs.PacedRun.{with_due, ticked_run}
use Rattle.kernel_core.proofs.RunFacts.{can-go, go-so}
use Rattle.kernel_core.proofs.RunAfter.{with_board_and_hart, after-go, action-of-go, entries-of-go, kept-go, kept-tick}

-- the tick leaves the number of actions
due-actions : (plan : Plan) (progress : HartPace) (number : ℕ) (r : RunValue) (o : Option HartState)
    → (with_due plan progress number r o).actions ≡ r.actions
due-actions plan progress number r None = refl
due-actions plan progress number r (Some h) = refl

pub ticked-actions : (plan : Plan) (progress : HartPace) (number : ℕ) (r : RunValue) → (ticked_run plan progress number r).actions ≡ r.actions
ticked-actions plan progress number r = due-actions plan progress number r (slice_get r.harts number)

module _ (r : RunValue) (number : ℕ) (h : HartState) (is : slice_get r.harts number ≡ Some h) where
  -- the hart is on its way under the kernel
  pub under-kernel : (loaded : Loaded) → IsRunKept loaded r → IsUnderKernel r.kernel.code.words h
  under-kernel loaded run = record {
    loaded = loaded;
    kernel = r.kernel;
    number = number;
    within = run.within;
    is_kernel = run.is_kernel;
    words = refl;
    way = run.kept.harts number h is;
  }

  module _ (plan : Plan) (progress : HartPace) where
    abbrev due : HartState
    due = due_hart plan progress h

    abbrev t : RunValue
    t = ticked_run plan progress number r

    ticked-is : t ≡ with_board_and_hart r r.board number due
    ticked-is = ap (with_due plan progress number r) is

    -- it is kept, with the tick or without
    kept-by : (b : Bool) (loaded : Loaded) → IsRunKept loaded r → IsRunKept loaded (with_board_and_hart r r.board number (ticked_if b h))
    kept-by true loaded run = kept-tick r number h is (ticked_if true h) refl loaded run
    kept-by false loaded run =
        let P : List HartState → Type 0 = λ hs. IsRunKept loaded (record { board = r.board; harts = hs; kernel = r.kernel; actions = r.actions }) in
        subst P (sym (set-same r.harts number h is)) run

    -- and the hart may make its step then
    pub can-go-due : (loaded : Loaded) → IsRunKept loaded r → number < length r.harts → length r.board.lists.order < r.actions
        → CanGo r.kernel.code.words r.board number due
    can-go-due loaded run there left =
        let v : RunValue = with_board_and_hart r r.board number due in
        let low : number < length v.harts = subst (λ n. number < n) (sym (length-set r.harts number due)) there in
        can-go v loaded (kept-by (is_tick_due plan progress h) loaded run) number due (get-set_same r.harts number h due is) low left

    module _ (b : BoardWithSpare) (g : HartState) (action : Option Action)
        (gone : IsAfterBoardStep (board_step_of r.kernel.code.words r.board.lists number due) b.lists g action) where
      abbrev v : RunValue
      v = with_board_and_hart r r.board number due

      there : slice_get v.harts number ≡ Some due
      there = get-set_same r.harts number h due is

      -- setting the hart twice is setting it once
      once : with_board_and_hart v b number g ≡ with_board_and_hart r b number g
      once = ap (λ (hs : List HartState). record { board = b; harts = hs; kernel = r.kernel; actions = r.actions }) (set-set r.harts number due g)

      pub after-paced : IsAfterEvent t (with_board_and_hart r b number g) (Go number)
      after-paced =
          let P : RunValue → Type 0 = λ x. IsAfterEvent x (with_board_and_hart r b number g) (Go number) in
          let Q : RunValue → Type 0 = λ x. IsAfterEvent v x (Go number) in
          subst P (sym ticked-is) (subst Q once (after-go v number due there b g action gone))

      pub action-of-paced : action ≡ (event_on t (Go number)).action
      action-of-paced = action-of-go v number due there b g action gone ∙ ap (λ (x : RunValue). (event_on x (Go number)).action) (sym ticked-is)

      pub kept-paced : length b.lists.order + b.spare ≡ length r.board.lists.order + r.board.spare → (loaded : Loaded) → IsRunKept loaded r
          → IsRunKept loaded (with_board_and_hart r b number g)
      kept-paced room loaded run =
          subst (IsRunKept loaded) once
          (kept-go v number due there b g action gone room loaded (kept-by (is_tick_due plan progress h) loaded run))

    -- the step changes one hart
    pub harts-of-paced : (event_on t (Go number)).core.harts
        ≡ set r.harts number (board_step_of r.kernel.code.words r.board.lists number due).hart
    harts-of-paced =
        let v : RunValue = with_board_and_hart r r.board number due in
        ap (λ (x : RunValue). (event_on x (Go number)).core.harts) ticked-is
        ∙ ap (λ (x : CoreAndAction). x.core.harts) (go-so v number due (get-set_same r.harts number h due is))
        ∙ set-set r.harts number due (board_step_of r.kernel.code.words r.board.lists number due).hart

    pub entries-of-paced : entries_of t (Go number) ≡ (board_step_of r.kernel.code.words r.board.lists number due).probes
    entries-of-paced =
        ap (λ (x : RunValue). entries_of x (Go number)) ticked-is
        ∙ entries-of-go (with_board_and_hart r r.board number due) number due (get-set_same r.harts number h due is)
