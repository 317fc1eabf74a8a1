-- The end of a work whose input can't be had, and an input that was.
use Rattle.std.proofs.Common.{ℕ, Err, ap, subst}
use Rattle.io_edge.specs.Gone.{source_tells, sink_tells}
use Rattle.kernel_cli.specs.TopCall.{TakesAtMost, IsTooLarge}
use Rattle.kernel_cli.proofs.Answering.{answered_too_large, answered_read_fault, answered_without_memory}
use Rattle.kernel_cli.proofs.top.read_input.Goals as goal

pub returns-in-Err-ReadFault-clause-answered : goal.returns-in-Err-ReadFault-clause-answered
returns-in-Err-ReadFault-clause-answered g c =
    let taken = subst (λ (limit : ℕ). TakesAtMost limit (source_tells g.S.Source.left g.S.Source.given g.S.Source.ended c.args.src.now) (source_tells g.S.Source.left g.S.Source.given g.S.Source.ended c.read_all.new.src))
    c.limit_of.ensures.limit (record { told = c.read_all.ensures.taken; gave = c.read_all.ensures.gave_most }) in
    answered_read_fault (source_tells g.S.Source.left g.S.Source.given g.S.Source.ended) g.S.Source.faults (sink_tells g.K.Sink.held g.K.Sink.taken) g.K.Sink.faults _ _ _ _
    (c.in-Err-ReadFault.ensures.read_fault (ap (λ x. Err x) c.in-Err-ReadFault.field-0-is)) taken c.requires.reads
    (c.works_are_sound.ensures.sound c.args.work c.requires.counts (source_tells g.S.Source.left g.S.Source.given g.S.Source.ended c.args.src.now))

pub returns-in-Err-Memory-clause-answered : goal.returns-in-Err-Memory-clause-answered
returns-in-Err-Memory-clause-answered g c =
    let taken = subst (λ (limit : ℕ). TakesAtMost limit (source_tells g.S.Source.left g.S.Source.given g.S.Source.ended c.args.src.now) (source_tells g.S.Source.left g.S.Source.given g.S.Source.ended c.read_all.new.src))
    c.limit_of.ensures.limit (record { told = c.read_all.ensures.taken; gave = c.read_all.ensures.gave_most }) in
    answered_without_memory (source_tells g.S.Source.left g.S.Source.given g.S.Source.ended) g.S.Source.faults (sink_tells g.K.Sink.held g.K.Sink.taken) g.K.Sink.faults _ _ _ _
    taken c.requires.reads (c.works_are_sound.ensures.sound c.args.work c.requires.counts (source_tells g.S.Source.left g.S.Source.given g.S.Source.ended c.args.src.now))

pub returns-in-Err-TooLarge-clause-answered : goal.returns-in-Err-TooLarge-clause-answered
returns-in-Err-TooLarge-clause-answered g c =
    let is = ap (λ x. Err x) c.in-Err-TooLarge.field-0-is in
    let taken = subst (λ (limit : ℕ). TakesAtMost limit (source_tells g.S.Source.left g.S.Source.given g.S.Source.ended c.args.src.now) (source_tells g.S.Source.left g.S.Source.given g.S.Source.ended c.read_all.new.src))
    c.limit_of.ensures.limit (record { told = c.read_all.ensures.taken; gave = c.read_all.ensures.gave_most }) in
    let large = subst (λ (limit : ℕ). IsTooLarge limit (source_tells g.S.Source.left g.S.Source.given g.S.Source.ended c.args.src.now) (source_tells g.S.Source.left g.S.Source.given g.S.Source.ended c.read_all.new.src))
    c.limit_of.ensures.limit (record { told = c.in-Err-TooLarge.ensures.too_large is; gave = c.in-Err-TooLarge.ensures.gave_past is }) in
    answered_too_large (source_tells g.S.Source.left g.S.Source.given g.S.Source.ended) g.S.Source.faults (sink_tells g.K.Sink.held g.K.Sink.taken) g.K.Sink.faults _ _ _ _ _ _
    large taken c.put.ensures.written c.requires.reads (c.works_are_sound.ensures.sound c.args.work c.requires.counts (source_tells g.S.Source.left g.S.Source.given g.S.Source.ended c.args.src.now))
