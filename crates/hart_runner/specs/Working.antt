-- What a worker has of a coarse run (this project's own).
use Rattle.std.specs.Prelude.{◌≡◌, ℕ, List}
use Rattle.hart_model.specs.HartState.{HartState}
use Rattle.core_model.specs.declared.loaded.Loaded.{Loaded}
use Rattle.core_model.specs.KernelWords.{kernel_code}
use Rattle.core_model.specs.Orders.{IsLegal}
use Rattle.probe_log.specs.Counts.{Counts, StandFor}
use Rattle.order_laws.specs.CoarseRuns.{HartShare, IsShareOf, coarse_state}

-- The order is legal. The hart is the hart of this number in its coarse run, and the tally counts this hart's entries of the log.
pub record IsWorkerOf (loaded : Loaded) (number : ℕ) (order : List ℕ) (h : HartState) (tally : Counts) : Type 0 where
  pub legal : IsLegal loaded kernel_code order
  pub share : HartShare
  pub is_share : IsShareOf (coarse_state loaded kernel_code order) number share
  pub hart : h ≡ share.hart
  pub counts : StandFor tally share.entries
