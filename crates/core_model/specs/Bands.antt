-- The two bands of ready contexts: what they promise (this project's own).
use Rattle.std.specs.Prelude.{◌≡◌, ℕ, true, false, List, All, Some}
use Rattle.isa_model.specs.declared.ends.End.{End}
use Rattle.hart_model.specs.Context.{BodyState, ContextState}
use Rattle.core_model.specs.Board.{BoardState, all_ready, goes_first, boot_board, take_of, give_ready_of, give_done_of}

-- whatever is ready stands in the list of its task's band
pub record AreInTheirBands (b : BoardState) : Type 0 where
  pub first : All (λ (c : ContextState). goes_first b.bands c ≡ true) b.ready.first
  pub second : All (λ (c : ContextState). goes_first b.bands c ≡ false) b.ready.second

-- It does so at boot and after every action, and a task of band 1 is taken only where no task of band 0 is ready.
pub record BandsGoInOrder : Type 0 where
  pub boot : (slots : ℕ) (bodies : List BodyState) (bands : List ℕ) → AreInTheirBands (boot_board slots bodies bands)
  pub takes : (b : BoardState) (hart : ℕ) → AreInTheirBands b → AreInTheirBands (take_of b hart).board
  pub gives_ready : (b : BoardState) (hart : ℕ) (c : ContextState) → AreInTheirBands b → AreInTheirBands (give_ready_of b hart c)
  pub gives_done : (b : BoardState) (hart : ℕ) (c : ContextState) (end : End) → AreInTheirBands b → AreInTheirBands (give_done_of b hart c end)
  pub in_order : (b : BoardState) (hart : ℕ) (c : ContextState) → AreInTheirBands b → (take_of b hart).got ≡ Some c → goes_first b.bands c ≡ false
      → All (λ (other : ContextState). goes_first b.bands other ≡ false) (all_ready b.ready)
