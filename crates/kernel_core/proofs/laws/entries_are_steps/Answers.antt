use Rattle.kernel_core.proofs.PacedSteps.{entries-are-steps}
use Rattle.kernel_core.proofs.laws.entries_are_steps.Goals as goal

pub returns : goal.returns
returns c = record { steps = entries-are-steps }
