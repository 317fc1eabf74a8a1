use Rattle.std.proofs.Common.{append_assoc}
use Rattle.std.proofs.lemmas.Result.{IfOk-equal}
use Rattle.switch_emit.proofs.kernel_text.append_middle.Goals as goal

pub returns : goal.returns
returns c = record {
  lines = IfOk-equal _ _ _ _ c.append-9.ensures.lines
      (rw (c.in_ok-append-8.ensures.lines, c.in_ok-append_finish.ensures.lines, c.in_ok-append-7.ensures.lines, c.in_ok-append-6.ensures.lines, c.in_ok-append-5.ensures.lines, c.in_ok-append-4.ensures.lines, c.in_ok-append-3.ensures.lines, c.in_ok-append-2.ensures.lines, c.in_ok-append.ensures.lines, c.cause_lines.ensures.lines, c.interrupt_lines.ensures.lines, c.service_lines.ensures.lines, c.yield_lines.ensures.lines, c.exit_lines.ensures.lines, c.out_lines.ensures.lines, c.in_lines.ensures.lines, c.ready_lines.ensures.lines, c.take_lines.ensures.lines)
      (simp append_assoc));
}
