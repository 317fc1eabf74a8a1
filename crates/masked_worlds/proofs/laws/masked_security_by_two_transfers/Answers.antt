use Rattle.core_invariant.proofs.FromHarts.{stays-sound}
use Rattle.core_invariant.proofs.Proved.{kernel-harts}
use Rattle.noninterference.proofs.BothStand.{alike-logs-agree}
use Rattle.probing_laws.proofs.Transfers.{security-by-two-transfers}
use Rattle.masked_worlds.proofs.ByTwo.{masked-security-by-two-transfers}
use Rattle.masked_worlds.proofs.laws.masked_security_by_two_transfers.Goals as goal

pub returns : goal.returns
returns c = record { transfers = masked-security-by-two-transfers (security-by-two-transfers (stays-sound kernel-harts) alike-logs-agree) }
