-- The end of a work that doesn't read.
use Rattle.std.proofs.Common.{◌≡◌, ◌∙◌, Option, Some, map, string_bytes, sym, ap, subst}
use Rattle.io_edge.specs.Gone.{source_tells, sink_tells}
use Rattle.kernel_cli.specs.TopCall.{IsAnswered}
use Rattle.kernel_cli.specs.Works.{work_in, HasCounts, served_by_one}
use Rattle.kernel_cli.specs.declared.work.Work.{Work}
use Rattle.kernel_cli.specs.declared.work.Work.TheVariants.{Generated}
use Rattle.kernel_cli.proofs.Answering.{answered_generated}
use Rattle.kernel_cli.proofs.top.one_thread.Goals as goal

pub returns-in-Some-Generated : goal.returns-in-Some-Generated
returns-in-Some-Generated g c =
    let work = c.in-Some-Generated.work in
    let is : work_in (map string_bytes c.args.words.now) ≡ Some (Generated work) =
    sym c.read_work.ensures.work ∙ c.in-Some-Generated.is ∙ ap (λ (w : Work). Some w) c.in-Some-Generated.field-0-is in
    let counts : HasCounts (Generated work) = subst HasCounts c.in-Some-Generated.field-0-is c.in-Some-Generated.ensures.counts in
    record {
      answered = subst (λ (o : Option Work). IsAnswered (source_tells g.S.Source.left g.S.Source.given g.S.Source.ended) g.S.Source.faults (sink_tells g.K.Sink.held g.K.Sink.taken) g.K.Sink.faults
          (served_by_one o) c.args.src.now c.args.src.now c.args.sink.now c.put_answer.new.sink c.put_answer.result) (sym is)
          (answered_generated (source_tells g.S.Source.left g.S.Source.given g.S.Source.ended) g.S.Source.faults (sink_tells g.K.Sink.held g.K.Sink.taken) g.K.Sink.faults
          work c.args.src.now c.args.sink.now c.put_answer.new.sink c.put_answer.result c.answer_generated.result
          c.answer_generated.ensures.answer c.answer_generated.ensures.fine c.put_answer.ensures.written c.put_answer.ensures.memory
          (c.works_are_sound.ensures.sound (Generated work) counts (source_tells g.S.Source.left g.S.Source.given g.S.Source.ended c.args.src.now)));
    }
