-- The end of a work whose input was had.
use Rattle.std.proofs.Common.{ℕ, List, IfOk, refl, subst}
use Rattle.io_edge.specs.Gone.{source_tells, sink_tells}
use Rattle.kernel_cli.specs.Outcome.{IsAnswerOver}
use Rattle.kernel_cli.specs.declared.work.Work.TheVariants.{Code}
use Rattle.kernel_cli.proofs.Answering.{answered_over}
use Rattle.kernel_cli.proofs.top.do_code.Goals as goal

pub returns-in-Ok : goal.returns-in-Ok
returns-in-Ok g c = record {
  answered = answered_over (source_tells g.S.Source.left g.S.Source.given g.S.Source.ended) g.S.Source.faults (sink_tells g.K.Sink.held g.K.Sink.taken) g.K.Sink.faults
      (Code c.args.work) c.args.src.now c.read_input.new.src c.args.sink.now c.read_input.new.sink c.put_answer.new.sink c.put_answer.result
      c.in-Ok.bytes.items c.answer_code.result c.in-Ok.ensures.read c.in-Ok.ensures.kept
      (subst (λ (bytes : List ℕ). IfOk c.answer_code.result (IsAnswerOver (Code c.args.work) bytes)) c.as_slice.ensures.value c.answer_code.ensures.answer)
      c.put_answer.ensures.written c.put_answer.ensures.memory
      (record {
        reading = refl;
        cores = c.works_are_sound.ensures.sound (Code c.args.work) c.requires.counts (source_tells g.S.Source.left g.S.Source.given g.S.Source.ended c.args.src.now);
        securing = c.secure_tasks_stay_secure.ensures.secure;
      });
}
