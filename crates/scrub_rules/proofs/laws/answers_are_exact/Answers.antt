use Rattle.scrub_rules.proofs.Exact.{one_division, never_both, one_fault}
use Rattle.scrub_rules.proofs.laws.answers_are_exact.Goals as goal

pub returns : goal.returns
returns c = record { answers = record { one_division = one_division; never_both = never_both; one_fault = one_fault } }
