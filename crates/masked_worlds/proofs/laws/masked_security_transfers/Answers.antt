use Rattle.core_invariant.proofs.FromHarts.{stays-sound}
use Rattle.core_invariant.proofs.Proved.{kernel-harts}
use Rattle.noninterference.proofs.BothStand.{alike-logs-agree}
use Rattle.probing_laws.proofs.Transfers.{security-transfers}
use Rattle.masked_worlds.proofs.Secure.{masked-security-transfers}
use Rattle.masked_worlds.proofs.laws.masked_security_transfers.Goals as goal

pub returns : goal.returns
returns c = record { transfers = masked-security-transfers (security-transfers (stays-sound kernel-harts) alike-logs-agree) }
