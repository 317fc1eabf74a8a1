use Rattle.kernel_core.proofs.PacedSteps.{told-is-stepped}
use Rattle.kernel_core.proofs.laws.told_is_stepped.Goals as goal

pub returns : goal.returns
returns c = record { told = told-is-stepped }
