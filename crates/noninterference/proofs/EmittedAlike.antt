-- The kernel of this project is one whose parts do alike.
use Rattle.std.proofs.Common.{arith}
use Rattle.core_invariant.specs.KernelStates.{emitted_parts, IsAlikeKernel, own_save, own_restore}
use Rattle.core_invariant.proofs.OwnParts.{own-saves, own-restores}
use Rattle.core_invariant.proofs.EmittedKernel.{after_save, before_restore, after_restore}
use Rattle.noninterference.proofs.PartsAlike.{save-alike, restore-alike}

pub emitted-alike : IsAlikeKernel emitted_parts
emitted-alike = record {
  saves = save-alike own_save own-saves after_save;
  restores = restore-alike own_restore own-restores before_restore after_restore (omega arith);
}
