use Rattle.core_invariant.proofs.FromHarts.{stays-sound}
use Rattle.core_invariant.proofs.Proved.{kernel-harts}
use Rattle.core_invariant.proofs.laws.core_stays_sound.Goals as goal

pub returns : goal.returns
returns c = record { sound = stays-sound kernel-harts }
