-- The end of a work whose input is refused.
use Rattle.std.proofs.Common.{ℕ, Result, subst}
use Rattle.core_model.specs.declared.loaded.Loaded.{Loaded}
use Rattle.kernel_cli.specs.Outcome.{IsRead, IsRefusedFor}
use Rattle.kernel_cli.specs.declared.answer.Response.{Response}
use Rattle.kernel_cli.proofs.Answering.{threads_refused}
use Rattle.kernel_cli.proofs.runs.answer_on_threads.Goals as goal

pub returns-in-Err : goal.returns-in-Err
returns-in-Err g c =
    let read = subst (λ (r : Result Loaded Response). IsRead c.threads_of.result c.args.bytes.now r) c.in-Err.is c.in_ok-loaded.ensures.read in
    let refused = subst (λ (harts : ℕ). IsRefusedFor harts c.args.bytes.now c.in-Err.response) c.threads_of.ensures.harts read in
    record { answer = threads_refused c.args.work c.args.bytes.now c.in-Err.response c.requires.limit refused }
