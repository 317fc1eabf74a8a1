use Rattle.std.proofs.Common.{◌≡◌, ℕ, ◌≤◌, ◌<◌, false}
use Rattle.routine_laws.specs.Contents.{register, is_tagged}
use Rattle.scrub_rules.proofs.storage.Storage.are_registers_untagged.Given as goal

abbrev pub invariant-loop-i : goal.invariant-loop-i
invariant-loop-i l = (k : ℕ) → 1 ≤ k → k < l.i → is_tagged (register l.self k) ≡ false
