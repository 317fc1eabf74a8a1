-- The step wanted a take.
use Rattle.std.proofs.Common.{ap, ◌∙◌}
use Rattle.hart_model.specs.declared.calls.Did.TheVariants.{Wants}
use Rattle.hart_model.specs.declared.calls.QueueCall.TheVariants.{Take}
use Rattle.unit_kernel.proofs.AsksStill.{asks_still}
use Rattle.unit_kernel.proofs.hart.step.Goals as goal

pub answer_take-requires-clause-asks : goal.answer_take-requires-clause-asks
answer_take-requires-clause-asks g c =
    let is = c.in-Wants-Take.is ∙ ap Wants c.in-Wants-Take.field-0-is in
    asks_still c.args.code.now c.args.hart.now c.step.new.self Take c.step.result is c.step.ensures.wants c.step.ensures.wants_kept
