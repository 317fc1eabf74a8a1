use Rattle.noninterference.proofs.EmittedAlike.{emitted-alike}
use Rattle.noninterference.proofs.laws.emitted_is_alike.Goals as goal

pub returns : goal.returns
returns c = record { alike = emitted-alike }
