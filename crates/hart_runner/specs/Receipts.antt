-- How a worker ended, as its receipt says it (this project's own).
use Rattle.std.specs.Prelude.{◌≡◌, ℕ, List, [], ◌∷◌, ◌++◌, length, slice_get, Some, None}
use Rattle.hart_model.specs.HartState.{HartState}
use Rattle.core_model.specs.declared.action.Action.TheVariants as actions
use Rattle.core_model.specs.declared.loaded.Loaded.{Loaded}
use Rattle.core_model.specs.Board.{all_ready}
use Rattle.core_model.specs.KernelWords.{kernel_code}
use Rattle.core_model.specs.Orders.{steps_of_entry, coarse_after}
use Rattle.order_laws.specs.CoarseRuns.{coarse_state, times_in}
use Rattle.hart_runner.specs.declared.receipt.Receipt.{Receipt}
use Rattle.hart_runner.specs.declared.receipt.Cause.{Cause}
use Rattle.hart_runner.specs.declared.receipt.Cause.TheVariants.{Empty, Memory}

-- The last entry of the order is the hart's. It is a take that finds nothing: no context is ready then.
pub record FoundNothing (loaded : Loaded) (order : List ℕ) (number : ℕ) : Type 0 where
  pub before : List ℕ
  pub last : order ≡ before ++ number ∷ []
  pub action : (steps_of_entry kernel_code.words loaded.plans (coarse_state loaded kernel_code before) number).action ≡ Some actions.Empty
  pub none_ready : all_ready (coarse_after loaded kernel_code before).board.ready ≡ []

-- After the order the hart holds no context.
pub record HoldsNothing (loaded : Loaded) (order : List ℕ) (number : ℕ) : Type 0 where
  pub state : HartState
  pub hart : slice_get (coarse_after loaded kernel_code order).harts number ≡ Some state
  pub held : state.held ≡ None

-- why a worker ended that has seen this order
abbrev pub EndsFor : Loaded → List ℕ → ℕ → Cause → Type 0
EndsFor loaded order number Empty = FoundNothing loaded order number
EndsFor loaded order number Memory = HoldsNothing loaded order number

-- A receipt of the worker of a hart, over an order: so many entries from its beginning have all of the hart's, and of them its cause holds.
pub record IsReceiptOf (loaded : Loaded) (order : List ℕ) (number : ℕ) (r : Receipt) : Type 0 where
  pub seen : List ℕ
  pub rest : List ℕ
  pub parts : order ≡ seen ++ rest
  pub count : r.order_length ≡ length seen
  pub all : times_in number rest ≡ 0
  pub cause : EndsFor loaded seen number r.cause
