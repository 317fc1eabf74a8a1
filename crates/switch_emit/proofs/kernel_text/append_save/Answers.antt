use Rattle.std.proofs.Common.{append_assoc}
use Rattle.std.proofs.lemmas.Result.{IfOk-equal}
use Rattle.switch_emit.proofs.kernel_text.append_save.Goals as goal

pub returns : goal.returns
returns c = record {
  lines = IfOk-equal _ _ _ _ c.append-2.ensures.lines
      (rw (c.in_ok-append_saves.ensures.lines, c.in_ok-append.ensures.lines, c.at.ensures.line, c.mul.ensures.line, c.csrrw.ensures.line, c.clear_store.ensures.line, c.clear_load.ensures.line, c.clear_store-2.ensures.line, c.csrrs.ensures.line, c.sw.ensures.line, c.saved.ensures.offset, c.sw-2.ensures.line, c.saved-2.ensures.offset, c.addi.ensures.line, c.clear_store-3.ensures.line, c.csrrw-2.ensures.line)
      (simp append_assoc));
}
