-- A board and harts after a step or a tick of a hart: as the event says, and kept.
use Rattle.std.proofs.Common.{◌≡◌, ℕ, zero, suc, ◌+◌, ◌<◌, List, [], ◌∷◌, set, get_or, length, slice_get, Option, Some, refl, sym, ap, ◌∙◌, arith}
use Rattle.hart_model.specs.HartState.{HartState, tick_of}
use Rattle.core_model.specs.declared.event.Event.TheVariants.{Go, Tick}
use Rattle.core_model.specs.declared.action.Action.{Action}
use Rattle.core_model.specs.declared.loaded.Loaded.{Loaded}
use Rattle.core_model.specs.Board.{BoardWithSpare}
use Rattle.core_model.specs.BoardStep.{board_step_of}
use Rattle.core_model.specs.Core.{CoreAndAction, after_tick, without_action}
use Rattle.kernel_core.specs.BoardStep.{IsAfterBoardStep}
use Rattle.kernel_core.specs.Running.{RunValue, IsRunKept, IsAfterEvent, core_of_run, event_on, entries_of}
use Rattle.kernel_core.proofs.RunFacts.{go-so, kept-after}

-- the element at an index that there is
pub index-is : {X : Type 0} (xs : List X) (i : ℕ) (x : X) → i < length xs → x ≡ get_or xs i x → slice_get xs i ≡ Some x
index-is [] i x low e = absurd (omega (arith, low))
index-is (y ∷ xs) zero x low e = ap Some (sym e)
index-is (y ∷ xs) (suc i) x low e = index-is xs i x (omega (arith, low)) e

-- the values after a step of the hart of this number, and after its tick
abbrev pub with_board_and_hart : RunValue → BoardWithSpare → ℕ → HartState → RunValue
with_board_and_hart r b number h = record { board = b; harts = set r.harts number h; kernel = r.kernel; actions = r.actions }

module _ (r : RunValue) (number : ℕ) (h : HartState) (is : slice_get r.harts number ≡ Some h) where
  module _ (b : BoardWithSpare) (g : HartState) (action : Option Action) (gone : IsAfterBoardStep (board_step_of r.kernel.code.words r.board.lists number h) b.lists g action) where
    pub after-go : IsAfterEvent r (with_board_and_hart r b number g) (Go number)
    after-go =
        let so = go-so r number h is in
        record {
          board = gone.board ∙ ap (λ (x : CoreAndAction). x.core.board) (sym so);
          harts = ap (λ (x : HartState). set r.harts number x) gone.hart ∙ ap (λ (x : CoreAndAction). x.core.harts) (sym so);
          kernel = refl;
          actions = refl;
        }

    pub action-of-go : action ≡ (event_on r (Go number)).action
    action-of-go = gone.action_is ∙ ap (λ (x : CoreAndAction). x.action) (sym (go-so r number h is))

  pub entries-of-go : entries_of r (Go number) ≡ (board_step_of r.kernel.code.words r.board.lists number h).probes
  entries-of-go = ap (λ (x : CoreAndAction). x.core.log) (go-so r number h is)

  pub after-tick-of : (g : HartState) → g ≡ tick_of h → IsAfterEvent r (with_board_and_hart r r.board number g) (Tick number)
  after-tick-of g ticked =
      let P : Option HartState → CoreAndAction = λ o. without_action (after_tick (core_of_run r) number o) in
      record {
        board = ap (λ (x : CoreAndAction). x.core.board) (sym (ap P is));
        harts = ap (λ (x : HartState). set r.harts number x) ticked ∙ ap (λ (x : CoreAndAction). x.core.harts) (sym (ap P is));
        kernel = refl;
        actions = refl;
      }

  pub kept-go : (b : BoardWithSpare) (g : HartState) (action : Option Action) → IsAfterBoardStep (board_step_of r.kernel.code.words r.board.lists number h) b.lists g action
      → length b.lists.order + b.spare ≡ length r.board.lists.order + r.board.spare → (loaded : Loaded) → IsRunKept loaded r
      → IsRunKept loaded (with_board_and_hart r b number g)
  kept-go b g action gone room loaded run =
      kept-after r (with_board_and_hart r b number g) loaded (Go number) run (after-go b g action gone) room

  pub kept-tick : (g : HartState) → g ≡ tick_of h → (loaded : Loaded) → IsRunKept loaded r → IsRunKept loaded (with_board_and_hart r r.board number g)
  kept-tick g ticked loaded run =
      kept-after r (with_board_and_hart r r.board number g) loaded (Tick number) run (after-tick-of g ticked) refl
