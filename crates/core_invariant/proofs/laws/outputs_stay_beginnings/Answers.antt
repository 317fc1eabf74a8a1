use Rattle.core_invariant.proofs.FromHarts.{outputs-stay}
use Rattle.core_invariant.proofs.Proved.{kernel-harts}
use Rattle.core_invariant.proofs.laws.outputs_stay_beginnings.Goals as goal

pub returns : goal.returns
returns c = record { outputs = outputs-stay kernel-harts }
