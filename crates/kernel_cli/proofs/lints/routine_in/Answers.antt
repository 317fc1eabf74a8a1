-- An input without words is no routine.
use Rattle.std.proofs.Common.{List, ℕ, Result, subst}
use Rattle.kernel_cli.specs.declared.answer.Response.{Response}
use Rattle.kernel_cli.specs.Lints.{words_in}
use Rattle.kernel_cli.specs.Routines.{AreWordsOf}
use Rattle.kernel_cli.proofs.Linting.{no_words}
use Rattle.kernel_cli.proofs.lints.routine_in.Goals as goal

pub returns-in-Err : goal.returns-in-Err
returns-in-Err c = record {
  routine = no_words c.args.bytes.now c.in-Err.response
      (subst (λ (r : Result (List ℕ) Response). AreWordsOf (words_in c.args.bytes.now) r) c.in-Err.is c.in_ok-words.ensures.words);
}
