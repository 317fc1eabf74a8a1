-- A routine that is accepted, with a drill, and none.
use Rattle.std.proofs.Common.{List, ℕ, Result, subst}
use Rattle.scrub_rules.specs.Parts.{Parts}
use Rattle.kernel_cli.specs.declared.answer.Response.{Response}
use Rattle.kernel_cli.specs.Answer.{done}
use Rattle.kernel_cli.specs.Outcome.{IsAnswer}
use Rattle.kernel_cli.specs.Routines.{IsRoutineIn}
use Rattle.kernel_cli.proofs.Linting.{lint_drilled, lint_drill_refused}
use Rattle.kernel_cli.proofs.lints.answer_lint_drill.Goals as goal

pub returns-in_ok-accepted_and_drilled-in-Ok : goal.returns-in_ok-accepted_and_drilled-in-Ok
returns-in_ok-accepted_and_drilled-in-Ok c =
    let drilled = c.in_ok-accepted_and_drilled-in-Ok.ensures.text in
    record {
      answer = lint_drilled c.args.seed c.args.tasks c.args.bytes.now c.in-Ok.routine c.in_ok-loaded-in-Ok.loaded drilled.0 c.done.result c.requires.limit
          (subst (λ (r : Result Parts Response). IsRoutineIn c.args.bytes.now r) c.in-Ok.is c.in_ok-routine.ensures.routine)
          c.in_ok-loaded-in-Ok.ensures.loads drilled.1
          (subst (λ (text : List ℕ). IsAnswer c.done.result (done text)) drilled.2 c.done.ensures.answer);
    }

pub returns-in-Err : goal.returns-in-Err
returns-in-Err c = record {
  answer = lint_drill_refused c.args.seed c.args.tasks c.args.bytes.now c.in-Err.response c.requires.limit
      (subst (λ (r : Result Parts Response). IsRoutineIn c.args.bytes.now r) c.in-Err.is c.in_ok-routine.ensures.routine);
}
