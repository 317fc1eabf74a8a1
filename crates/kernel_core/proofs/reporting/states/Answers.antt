-- One task more.
use Rattle.std.proofs.Common.{◌++◌, ◌∷◌, [], List, sym, ap, ◌∙◌, arith}
use Rattle.core_model.specs.Core.{CoreState}
use Rattle.kernel_core.specs.declared.snapshot.TaskState.{TaskState}
use Rattle.resume_laws.specs.Parts.{core_of_parts}
use Rattle.kernel_core.specs.Snapshots.{states_from}
use Rattle.kernel_core.proofs.Reported.{states-more}
use Rattle.kernel_core.proofs.reporting.states.Goals as goal

pub loop-task-preserved : goal.loop-task-preserved
loop-task-preserved c =
    let below = c.loop-task-test.true in
    let core : CoreState = core_of_parts c.args.board.now.lists c.args.harts.now in (
      c.in_ok-push.ensures.items ∙ ap (λ (ss : List TaskState). ss ++ c.in_ok-state.field-0 ∷ []) c.loop-task.invariant.0
          ∙ ap (λ (s : TaskState). states_from core 0 c.loop-task.task ++ s ∷ []) c.in_ok-state.ensures.state
          ∙ sym (states-more core c.loop-task.task),
      omega (arith, below),
    )
