-- At the end all items up to 31 are written.
use Rattle.std.proofs.Common.{◌≡◌, ℕ, replicate, ap, ◌∙◌, arith}
use Rattle.routine_laws.specs.declared.content.Content.TheVariants.{Unknown, TaskReg}
use Rattle.scrub_rules.proofs.Filled.{filled, filled_regs}
use Rattle.scrub_rules.proofs.storage.task_regs.Goals as goal

pub returns : goal.returns
returns c =
    let end : c.loop-i.i ≡ 32 = omega arith in
    record { contents = c.loop-i.invariant ∙ (ap (λ (n : ℕ). filled TaskReg (replicate 32 Unknown) n) end ∙ filled_regs) }
