-- At the end all items up to 31 are written.
use Rattle.std.proofs.Common.{◌≡◌, ℕ, replicate, ap, ◌∙◌, arith}
use Rattle.routine_laws.specs.declared.content.Content.TheVariants.{Public, TaskReg}
use Rattle.scrub_rules.proofs.Filled.{filled, filled_slot}
use Rattle.scrub_rules.proofs.storage.task_slot.Goals as goal

pub returns : goal.returns
returns c =
    let end : c.loop-i.i ≡ 32 = omega arith in
    record { contents = c.loop-i.invariant ∙ (ap (λ (n : ℕ). filled TaskReg (replicate 36 Public) n) end ∙ filled_slot) }
