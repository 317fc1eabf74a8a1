-- A routine that is accepted, and none.
use Rattle.std.proofs.Common.{List, ℕ, Result, subst}
use Rattle.scrub_rules.specs.Parts.{Parts}
use Rattle.kernel_cli.specs.declared.answer.Response.{Response}
use Rattle.kernel_cli.specs.Answer.{done}
use Rattle.kernel_cli.specs.Outcome.{IsAnswer}
use Rattle.kernel_cli.specs.Routines.{IsRoutineIn}
use Rattle.kernel_cli.proofs.Linting.{lint_accepted, lint_refused}
use Rattle.kernel_cli.proofs.lints.answer_lint.Goals as goal

pub returns-in_ok-accepted-in-Ok : goal.returns-in_ok-accepted-in-Ok
returns-in_ok-accepted-in-Ok c = record {
  answer = lint_accepted c.args.bytes.now c.in-Ok.routine c.done.result c.requires.limit
      (subst (λ (r : Result Parts Response). IsRoutineIn c.args.bytes.now r) c.in-Ok.is c.in_ok-routine.ensures.routine)
      (subst (λ (text : List ℕ). IsAnswer c.done.result (done text)) c.in_ok-accepted-in-Ok.ensures.text c.done.ensures.answer);
}

pub returns-in-Err : goal.returns-in-Err
returns-in-Err c = record {
  answer = lint_refused c.args.bytes.now c.in-Err.response c.requires.limit
      (subst (λ (r : Result Parts Response). IsRoutineIn c.args.bytes.now r) c.in-Err.is c.in_ok-routine.ensures.routine);
}
