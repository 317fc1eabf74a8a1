-- What is saved of a hart that rests is all of it, so the hart has these values again, and rests.
use Rattle.std.proofs.Common.{sym, ap, subst, ◌∙◌, arith}
use Rattle.std.proofs.lemmas.Grind.{common_steps}
use Rattle.resting_hart.specs.Resting.{IsResting}
use Rattle.resting_hart.specs.RestValues.{rest_of}
use Rattle.resting_hart.proofs.WholeRest.{rest-is-whole}
use Rattle.hart_state.proofs.hart.Hart.from_rest.Goals as goal

pub returns-clause-hart : goal.returns-clause-hart
returns-clause-hart c = grind (arith, common_steps)

pub returns-clause-again : goal.returns-clause-again
returns-clause-again c = ap rest_of (returns-clause-hart c) ∙ rest-is-whole.again c.args.hart c.args.rest.now c.requires.rest

pub returns-clause-rests : goal.returns-clause-rests
returns-clause-rests c = subst (IsResting c.args.hart) (sym (returns-clause-hart c)) (rest-is-whole.rests c.args.hart c.args.rest.now c.requires.rest)
