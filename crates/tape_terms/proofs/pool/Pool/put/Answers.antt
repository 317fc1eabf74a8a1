use Rattle.tape_terms.proofs.ValueLaws.{value-unfolds}
use Rattle.tape_terms.proofs.pool.Pool.put.Goals as goal

pub returns-in-Some-clause-value : goal.returns-in-Some-clause-value
returns-in-Some-clause-value c = value-unfolds c.args.self.now c.in-Some.i c.args.term c.in-Some.ensures.found c.in-Some.ensures.after
