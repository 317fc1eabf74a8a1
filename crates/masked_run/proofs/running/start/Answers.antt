-- All latches have the term of 0.
use Rattle.masked_run.proofs.RunLaws.{starts}
use Rattle.masked_run.proofs.running.start.Goals as goal

pub returns-clause-stands : goal.returns-clause-stands
returns-clause-stands c = λ fixed.
    starts c.args.task.now fixed c.constant.new.self c.new.result c.in_ok-term.term c.new.ensures.terms c.in_ok-term.ensures.place c.in_ok-term.ensures.value
