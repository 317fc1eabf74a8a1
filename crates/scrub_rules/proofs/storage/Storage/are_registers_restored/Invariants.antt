use Rattle.std.proofs.Common.{◌≡◌, ℕ, ◌≤◌, ◌<◌}
use Rattle.routine_laws.specs.declared.content.Content.TheVariants.{TaskReg}
use Rattle.routine_laws.specs.Contents.{register}
use Rattle.scrub_rules.proofs.storage.Storage.are_registers_restored.Given as goal

abbrev pub invariant-loop-i : goal.invariant-loop-i
invariant-loop-i l = (k : ℕ) → 1 ≤ k → k < l.i → register l.self k ≡ TaskReg k
