-- The report of a finished run is that of the order that the harts made.
use Rattle.std.proofs.Common.{List, ℕ, All, IsSome, subst}
use Rattle.kernel_core.specs.declared.snapshot.Snapshot.{Snapshot}
use Rattle.kernel_core.specs.declared.snapshot.TaskState.{TaskState}
use Rattle.kernel_cli.specs.Answer.{done}
use Rattle.kernel_cli.specs.Outcome.{IsAnswer}
use Rattle.kernel_cli.proofs.Answering.{run_answered}
use Rattle.kernel_cli.proofs.runs.answer_by_threads.Goals as goal

pub returns-in_ok-run_text-in-Ok : goal.returns-in_ok-run_text-in-Ok
returns-in_ok-run_text-in-Ok g c =
    let is = c.in-Ok.ensures.finished in
    record {
      answer = run_answered c.args.work c.args.loaded.now c.in-Ok.finished.snapshot.order c.done.result
          (record {
            legal = is.legal;
            bounded = is.bounded;
            ended = subst (λ (s : Snapshot). All (λ (task : TaskState). IsSome task.end) s.tasks) is.snapshot is.ended;
          })
          (subst (λ (text : List ℕ). IsAnswer c.done.result (done text)) c.in_ok-run_text-in-Ok.ensures.text c.done.ensures.answer);
    }
