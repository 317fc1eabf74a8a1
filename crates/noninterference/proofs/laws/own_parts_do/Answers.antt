use Rattle.core_invariant.specs.KernelStates.{own_save, own_restore}
use Rattle.core_invariant.proofs.OwnParts.{own-saves, own-restores}
use Rattle.noninterference.proofs.PartsAlike.{words-save, words-restore}
use Rattle.noninterference.proofs.laws.own_parts_do.Goals as goal

pub returns : goal.returns
returns c = record { parts = record { saves = words-save own_save own-saves; restores = words-restore own_restore own-restores } }
