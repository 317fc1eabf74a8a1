use Rattle.std.proofs.Common.{append_assoc}
use Rattle.std.proofs.lemmas.Result.{IfOk-equal}
use Rattle.switch_emit.proofs.kernel_text.append_kernel.Goals as goal

pub returns : goal.returns
returns c = record {
  lines = IfOk-equal _ _ _ _ c.append_last.ensures.lines
      (rw (c.in_ok-append_restore.ensures.lines, c.in_ok-append_middle.ensures.lines, c.in_ok-append_save.ensures.lines)
      (simp append_assoc));
}
