use Rattle.core_invariant.proofs.FromHarts.{none-wedges}
use Rattle.core_invariant.proofs.Proved.{kernel-harts}
use Rattle.core_invariant.proofs.laws.no_hart_wedges.Goals as goal

pub returns : goal.returns
returns c = record { never = none-wedges kernel-harts }
