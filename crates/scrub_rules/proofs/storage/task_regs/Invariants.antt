use Rattle.std.proofs.Common.{◌≡◌, replicate}
use Rattle.routine_laws.specs.declared.content.Content.TheVariants.{Unknown, TaskReg}
use Rattle.scrub_rules.proofs.Filled.{filled}
use Rattle.scrub_rules.proofs.storage.task_regs.Given as goal

abbrev pub invariant-loop-i : goal.invariant-loop-i
invariant-loop-i l = l.regs ≡ filled TaskReg (replicate 32 Unknown) l.i
