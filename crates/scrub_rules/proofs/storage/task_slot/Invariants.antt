use Rattle.std.proofs.Common.{◌≡◌, replicate}
use Rattle.routine_laws.specs.declared.content.Content.TheVariants.{Public, TaskReg}
use Rattle.scrub_rules.proofs.Filled.{filled}
use Rattle.scrub_rules.proofs.storage.task_slot.Given as goal

abbrev pub invariant-loop-i : goal.invariant-loop-i
invariant-loop-i l = l.slot ≡ filled TaskReg (replicate 36 Public) l.i
