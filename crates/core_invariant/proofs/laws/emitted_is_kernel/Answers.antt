use Rattle.core_invariant.proofs.Proved.{emitted-is-kernel}
use Rattle.core_invariant.proofs.laws.emitted_is_kernel.Goals as goal

pub returns : goal.returns
returns c = record { kernel = emitted-is-kernel }
