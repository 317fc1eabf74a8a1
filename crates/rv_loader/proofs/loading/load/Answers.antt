-- What is loaded is within the limits, and what is refused after the assembly is no fault of code.
use Rattle.std.proofs.Common.{◌≡◌, Ok, sym, arith}
use Rattle.std.proofs.lemmas.Grind.{common_steps}
use Rattle.std.proofs.lemmas.Result.{err_from_is_err_and}
use Rattle.rv_loader.specs.Loading.{loading_of}
use Rattle.rv_loader.proofs.Within.{loading_sound}
use Rattle.rv_loader.proofs.Outcomes.{refusal_no_memory}
use Rattle.rv_loader.proofs.loading.load.Goals as goal

pub returns-in_err-check_all-clause-memory : goal.returns-in_err-check_all-clause-memory
returns-in_err-check_all-clause-memory c =
    let p = err_from_is_err_and c.from_residual-in_err-check_all.result c.from_residual-in_err-check_all.ensures.1 in
    rw (p.1, p.2) (refusal_no_memory c.args.bundle.now c.args.harts c.as_slice-2.result.now c.in_err-check_all.field-0.0 (sym c.in_err-check_all.ensures.refusal))

pub returns-clause-valid : goal.returns-clause-valid
returns-clause-valid c =
    let loaded = c.in_ok-loaded_of.field-0 in
    let h : loading_of c.args.bundle.now c.args.harts ≡ Ok loaded = grind (arith, common_steps) in
    (loading_sound c.args.bundle.now c.args.harts loaded c.requires.harts_low c.requires.harts_high c.requires.range h).sound
