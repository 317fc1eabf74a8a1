-- What each entry of a legal order keeps of a coarse run (this project's own): the core is kept, and each hart that goes on stands where it
-- does between two of its queue actions.
use Rattle.std.specs.Prelude.{◌≡◌, ℕ, ◌+◌, ◌*◌, ◌≤◌, ◌⊎◌, false, List, length, slice_get, Some}
use Rattle.isa_model.specs.declared.task.Task.{Task}
use Rattle.hart_model.specs.Context.{ContextState}
use Rattle.hart_model.specs.HartState.{HartState}
use Rattle.core_model.specs.declared.loaded.Loaded.{Loaded}
use Rattle.core_model.specs.Routines.{IsUserState, IsReadyContext}
use Rattle.core_model.specs.Orders.{HartPace, CoarseState}
use Rattle.core_invariant.specs.KernelStates.{KernelParts, middle_at, give_done_index, take_index}
use Rattle.core_invariant.specs.CutPoints.{IsEmptyHanded}
use Rattle.core_invariant.specs.Invariant.{IsCoreKept}
use Rattle.order_laws.specs.Arrives.{Arrives, IsAfter}

-- A hart that holds nothing is at the take, or at the jump to it that follows the give of an ended task.
abbrev pub IsFree : List Task → KernelParts → ℕ → HartState → Type 0
IsFree tasks k number h =
    IsEmptyHanded tasks number (middle_at k + 4 * take_index) h ⊎ IsEmptyHanded tasks number (middle_at k + 4 * (give_done_index + 1)) h

-- how many steps lead from a take that got a context into user mode
abbrev pub restore_steps : KernelParts → ℕ
restore_steps k = 12 + (k.restore + 1)

-- A hart that has taken a context, as its pace says, comes into user mode with it.
pub record IsHolding (tasks : List Task) (k : KernelParts) (number : ℕ) (pace : HartPace) (h : HartState) : Type 0 where
  pub context : ContextState
  pub held : h.held ≡ Some context
  pub ready : IsReadyContext tasks context
  pub way : Arrives k.code.words (restore_steps k) (λ g. IsUserState tasks number g context × IsAfter h g) h
  pub taken_at : pace.taken_at ≡ context.body.count
  pub some_take : 1 ≤ pace.takes

abbrev pub IsBetweenActions : List Task → KernelParts → ℕ → HartPace → HartState → Type 0
IsBetweenActions tasks k number pace h = IsFree tasks k number h ⊎ IsHolding tasks k number pace h

-- A coarse run of a loaded bundle under a kernel, between two entries of an order: there is a pace for each hart, and a hart that has not
-- found nothing is between two of its actions. Where it began is left open.
pub record IsCoarseKept (k : KernelParts) (loaded : Loaded) (co : CoarseState) : Type 0 where
  pub core : IsCoreKept k loaded co.core
  pub paces : length co.paces ≡ loaded.harts
  pub harts : (number : ℕ) (pace : HartPace) (h : HartState) → slice_get co.paces number ≡ Some pace → slice_get co.core.harts number ≡ Some h
      → pace.has_stopped ≡ false → IsBetweenActions loaded.tasks k number pace h
