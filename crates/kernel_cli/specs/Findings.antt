-- What a command finds beside the bytes of its input.
use Rattle.std.specs.Prelude.{ℕ, List, [], Result, Err}
use Rattle.probing_laws.specs.declared.verdict.Verdict.{Verdict}
use Rattle.probing_laws.specs.declared.verdict.CertFault.{CertFault}
use Rattle.probing_laws.specs.declared.verdict.CertFault.TheVariants.{Memory}
use Rattle.probing_laws.specs.declared.verdict_two.VerdictTwo.{VerdictTwo}
use Rattle.probing_laws.specs.declared.verdict_two.TwoFault.{TwoFault}
use Rattle.probing_laws.specs.declared.verdict_two.TwoFault.TheVariants as two_faults
use Rattle.scrub_rules.specs.Parts.{Parts}
use Rattle.scrub_rules.specs.declared.rule.Rule.TheVariants as rules
use Rattle.scrub_rules.specs.declared.rule.RuleFault.{RuleFault}

-- nothing, the order that the harts of `run` make on their threads or the hart of `drill` makes, what `certify` judges of a task, what
-- `certify 2` does, or what `lint` finds of a routine, with the order that the hart of `lint SEED N` makes
pub data Finding : Type 0 where
  Nothing : Finding
  Ordered : List ℕ → Finding
  Judged : Result Verdict CertFault → Finding
  JudgedByTwo : Result VerdictTwo TwoFault → Finding
  Linted : Result Parts RuleFault → List ℕ → Finding

-- that order, those judgements, and what is found of a routine
abbrev pub order_in : Finding → List ℕ
order_in (Ordered order) = order
order_in (Linted routine order) = order
order_in found = []

abbrev pub judgement_in : Finding → Result Verdict CertFault
judgement_in (Judged judgement) = judgement
judgement_in found = Err Memory

abbrev pub judgement_by_two_in : Finding → Result VerdictTwo TwoFault
judgement_by_two_in (JudgedByTwo judgement) = judgement
judgement_by_two_in found = Err two_faults.Memory

abbrev pub routine_in : Finding → Result Parts RuleFault
routine_in (Linted routine order) = routine
routine_in found = Err (record { at = 0; rule = rules.Memory })
