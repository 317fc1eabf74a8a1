-- What is known of every kernel that a core runs (this project's own).
use Rattle.core_invariant.specs.KernelStates.{KernelParts, IsKernel, IsAlikeKernel}

-- A kernel whose parts save and restore, and do the same on two harts that are alike.
pub record IsWholeKernel (k : KernelParts) : Type 0 where
  pub kernel : IsKernel k
  pub alike : IsAlikeKernel k
