-- A worker between two turns, and in the middle of one (this project's own).
use Rattle.std.specs.Prelude.{◌≡◌, ℕ, ◌++◌, false, List, Some}
use Rattle.hart_model.specs.HartStep.{hart_step}
use Rattle.core_model.specs.declared.loaded.Loaded.{Loaded}
use Rattle.core_model.specs.KernelWords.{kernel_code}
use Rattle.core_model.specs.Loaded.{IsLoaded}
use Rattle.core_model.specs.Orders.{IsLegal, plan_at, max_steps}
use Rattle.probe_log.specs.Counts.{StandFor}
use Rattle.ready_queue.specs.declared.kind.Kind.{Kind}
use Rattle.order_laws.specs.CoarseRuns.{HartShare, IsShareOf, coarse_state}
use Rattle.order_laws.specs.OwnSteps.{AtAction, own_steps}
use Rattle.hart_advance.specs.Pacing.{IsPaceOf}
use Rattle.kernel_core.specs.BoardStep.{GivesKind}
use Rattle.hart_runner.specs.declared.own_hart.OwnHart.{OwnHart}

-- Between two turns, after an order: the hart and its entries are those of the coarse run, the pace stands for where the hart is in its plan,
-- and no take has found nothing.
pub record IsTurning (loaded : Loaded) (number : ℕ) (order : List ℕ) (own : OwnHart) : Type 0 where
  pub is_loaded : IsLoaded loaded
  pub legal : IsLegal loaded kernel_code order
  pub share : HartShare
  pub is_share : IsShareOf (coarse_state loaded kernel_code order) number share
  pub goes_on : share.pace.has_stopped ≡ false
  pub hart : own.hart ≡ share.hart
  pub counts : StandFor own.tally share.entries
  pub pace : IsPaceOf (plan_at loaded.plans number) share.pace share.hart own.pace

-- After an order and the hart's own steps from there, up to its next queue action, which isn't made.
pub record IsAtAction (loaded : Loaded) (number : ℕ) (order : List ℕ) (own : OwnHart) : Type 0 where
  pub is_loaded : IsLoaded loaded
  pub legal : IsLegal loaded kernel_code order
  pub share : HartShare
  pub is_share : IsShareOf (coarse_state loaded kernel_code order) number share
  pub goes_on : share.pace.has_stopped ≡ false
  pub at : AtAction
  pub comes : own_steps kernel_code.words (plan_at loaded.plans number) share.pace number max_steps share.hart ≡ Some at
  pub hart : own.hart ≡ at.hart
  pub counts : StandFor own.tally (share.entries ++ at.probes)
  pub pace : IsPaceOf (plan_at loaded.plans number) share.pace at.hart own.pace

-- This action is a give, of this kind.
pub record IsAtGive (loaded : Loaded) (number : ℕ) (order : List ℕ) (kind : Kind) (own : OwnHart) : Type 0 where
  pub at_action : IsAtAction loaded number order own
  pub gives : GivesKind kind (hart_step kernel_code.words own.hart)
