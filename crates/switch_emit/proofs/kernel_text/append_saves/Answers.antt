use Rattle.std.proofs.Common.{arith}
use Rattle.core_model.specs.KernelText.{save_register}
use Rattle.switch_emit.proofs.Registers.{next_kept, next_skipped, all_kept}
use Rattle.switch_emit.proofs.kernel_text.append_saves.Goals as goal
use Rattle.switch_emit.proofs.kernel_text.append_saves.Goals.{then-register-ne-X5+in_ok-append, else-register-ne-X5}

pub loop-register-preserved : goal.loop-register-preserved
loop-register-preserved c =
    let r = c.loop-register.register in
    let lines = c.loop-register.text in
    let below = c.loop-register-test.true in
    elim c.if-register-ne-X5.branch [
      | then-register-ne-X5+in_ok-append w ↦
          rw (w.text-is, w.in_ok-append.ensures.lines, w.save_register.ensures.lines)
          (next_kept save_register r lines _ below w.if-register-ne-X5.true c.loop-register.invariant)
      | else-register-ne-X5 w ↦
          rw w.text-is (next_skipped save_register r lines _ below w.if-register-ne-X5.false c.loop-register.invariant)
    ]

pub returns : goal.returns
returns c =
    let r = c.loop-register.register in
    record { lines = all_kept save_register r c.loop-register.text _ (omega arith) c.loop-register.invariant }
