-- The body is that of a task at its start.
use Rattle.std.proofs.Common.{sym, subst}
use Rattle.hart_model.specs.Context.{BodyState, task_of, admit_of, StandsForTask}
use Rattle.context_slot.proofs.Admitted.{admitted-stands}
use Rattle.context_slot.proofs.context.Context.admit.Goals as goal

pub returns-clause-stands : goal.returns-clause-stands
returns-clause-stands c =
    let b = c.args.body in
    let T = task_of b in
    let words = c.start_words-words.ensures in
    let fresh = admitted-stands b.task_no c.args.slot T c.args.words words.length c.requires.registers in
    let admitted : StandsForTask (admit_of b c.args.slot c.args.words) T = subst (λ (x : BodyState). StandsForTask (admit_of x c.args.slot c.args.words) T) (sym c.requires.fresh) fresh in
    rw (words.words, c.task.ensures.task) admitted
