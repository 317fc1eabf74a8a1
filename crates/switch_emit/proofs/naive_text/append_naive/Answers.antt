use Rattle.std.proofs.Common.{append_assoc}
use Rattle.std.proofs.lemmas.Result.{IfOk-equal}
use Rattle.switch_emit.proofs.naive_text.append_naive.Goals as goal

pub returns : goal.returns
returns c = record {
  lines = IfOk-equal _ _ _ _ c.append_last.ensures.lines
      (rw (c.in_ok-append_restore.ensures.lines, c.in_ok-append-3.ensures.lines, c.in_ok-append-2.ensures.lines, c.in_ok-append_naive_saves.ensures.lines, c.in_ok-append.ensures.lines, c.take_lines.ensures.lines, c.jal_to_itself.ensures.line, c.at.ensures.line, c.csrrw.ensures.line)
      (simp append_assoc));
}
