-- The rule of the word is the rule, and the place the same.
use Rattle.scrub_rules.proofs.check.fault_of.Goals as goal

pub returns-clause-first : goal.returns-clause-first
returns-clause-first c = λ words broken. c.rule_of.ensures.first words c.args.fault.now.at broken
