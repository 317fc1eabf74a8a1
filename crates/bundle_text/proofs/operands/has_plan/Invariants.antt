-- What is left decides.
use Rattle.std.proofs.Common.{◌≡◌, drop}
use Rattle.bundle_text.specs.Operands.{has_plan}
use Rattle.bundle_text.proofs.operands.has_plan.Given as goal

abbrev pub invariant-loop-plan : goal.invariant-loop-plan
invariant-loop-plan l = has_plan l.hart l.plans ≡ has_plan l.hart (drop l.plan-index l.plans)
