-- The kernel's own code is a kernel.
use Rattle.std.proofs.Common.{ℕ, List, ◌+◌, drop, take, refl, arith}
use Rattle.symbolic_run.specs.SymbolicPath.{StandAt}
use Rattle.symbolic_run.proofs.Stand.{stand-at}
use Rattle.core_invariant.specs.KernelStates.{emitted_parts, IsLinked, IsKernel, middle_at, middle_len, middle_instrs, own_save, own_restore}
use Rattle.core_invariant.proofs.PartSaves.{save-values, save-explained}
use Rattle.core_invariant.proofs.PartRestores.{restore-values, restore-explained}
use Rattle.core_invariant.proofs.OwnParts.{own-saves, own-restores}

-- its middle stands behind the save part
middle-stands : StandAt emitted_parts.code.words (middle_at emitted_parts) (middle_instrs (middle_len + emitted_parts.restore + 1))
middle-stands =
    stand-at emitted_parts.code.words emitted_parts.save (middle_instrs (middle_len + emitted_parts.restore + 1)) (omega arith) (omega arith) refl

emitted-linked : IsLinked emitted_parts
emitted-linked = record {
  save_limit = omega arith;
  restore_limit = omega arith;
  take = refl;
  middle = middle-stands;
  mret = record { word = 0x30200073; is_word = refl; is_instr = refl };
  idle = record { word = 0x6f; is_word = refl; is_instr = refl };
}

-- the words of its code after the save part, and before and after the restore part
abbrev pub after_save : List ℕ
after_save = drop 101 emitted_parts.code.words

abbrev pub before_restore : List ℕ
before_restore = take 214 emitted_parts.code.words

abbrev pub after_restore : List ℕ
after_restore = drop 276 emitted_parts.code.words

pub emitted-kernel : IsKernel emitted_parts
emitted-kernel = record {
  linked = emitted-linked;
  saves_values = save-values own_save own-saves after_save;
  saves_explained = save-explained own_save own-saves after_save;
  restores_values = restore-values own_restore own-restores before_restore after_restore (omega arith);
  restores_explained = restore-explained own_restore own-restores before_restore after_restore (omega arith);
}
