-- The tasks of a loaded bundle are valid.
use Rattle.kernel_cli.proofs.Reporting.{tasks_valid}
use Rattle.kernel_cli.proofs.scripts.explain.Goals as goal

pub explain_text-requires : goal.explain_text-requires
explain_text-requires c = record { valid = tasks_valid c.args.loaded.now c.as_slice.result.now c.as_slice.ensures.items c.requires.loaded }
