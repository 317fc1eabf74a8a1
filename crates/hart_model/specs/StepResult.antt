-- What a step of a hart comes to (this project's own).
use Rattle.std.specs.Prelude.{ℕ, List, []}
use Rattle.hart_model.specs.declared.calls.QueueCall.{QueueCall}
use Rattle.hart_model.specs.declared.calls.Did.{Did}
use Rattle.hart_model.specs.declared.calls.Did.TheVariants as dids
use Rattle.hart_model.specs.declared.probe.Probe.{Probe}
use Rattle.hart_model.specs.HartState.{HartState}
use Rattle.hart_model.specs.Writes.{CellWrite}

-- A step leaves a hart and makes entries; or it comes to a queue action, with the writes that its instruction has begun with, the
-- register that a load goes to (0 for none) and the next pc; or the hart is wedged. The last two change nothing and make no entry.
pub data StepResult : Type 0 where
  Steps : (hart : HartState) (probes : List Probe) (did : Did) → StepResult
  Wants : (call : QueueCall) (early_writes : List CellWrite) (rd next : ℕ) → StepResult
  Wedged : StepResult

-- what the step did
abbrev pub did_of : StepResult → Did
did_of (Steps hart probes did) = did
did_of (Wants call early_writes rd next) = dids.Wants call
did_of Wedged = dids.Wedged

-- the hart after a step of this one
abbrev pub hart_after : HartState → StepResult → HartState
hart_after h (Steps hart probes did) = hart
hart_after h (Wants call early_writes rd next) = h
hart_after h Wedged = h

-- the entries of the step
abbrev pub probes_of : StepResult → List Probe
probes_of (Steps hart probes did) = probes
probes_of (Wants call early_writes rd next) = []
probes_of Wedged = []
