-- What is written so far, and the text of what is left, are the whole.
use Rattle.std.proofs.Common.{◌≡◌, ◌++◌, drop}
use Rattle.std.specs.List.{flat_map}
use Rattle.bundle_text.specs.Text.{plan_text}
use Rattle.bundle_text.proofs.writing.add_plans.Given as goal

abbrev pub invariant-loop-plan : goal.invariant-loop-plan
invariant-loop-plan l = l.out.items ++ flat_map plan_text (drop l.plan-index l.plans) ≡ l.initial.out.items ++ flat_map plan_text l.plans
