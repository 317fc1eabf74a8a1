use Rattle.core_invariant.proofs.FromHarts.{one-home-each}
use Rattle.core_invariant.proofs.Proved.{kernel-harts}
use Rattle.core_invariant.proofs.laws.each_task_has_one_home.Goals as goal

pub returns : goal.returns
returns c = record { homes = one-home-each kernel-harts }
