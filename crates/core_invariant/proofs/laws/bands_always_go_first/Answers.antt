use Rattle.core_invariant.proofs.BandsFirst.{bands-always-first}
use Rattle.core_invariant.proofs.laws.bands_always_go_first.Goals as goal

pub returns : goal.returns
returns c = record { bands = bands-always-first }
