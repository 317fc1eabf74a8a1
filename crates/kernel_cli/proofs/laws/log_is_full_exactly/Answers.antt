-- One way to the first long log, the other from any.
use Rattle.kernel_cli.proofs.FullLogs.{full_exactly}
use Rattle.kernel_cli.proofs.laws.log_is_full_exactly.Goals as goal

pub returns : goal.returns
returns c = record { full = full_exactly }
