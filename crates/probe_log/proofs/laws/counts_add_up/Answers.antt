use Rattle.probe_log.proofs.CountsAddUp.{counts_add_up}
use Rattle.probe_log.proofs.laws.counts_add_up.Goals as goal

pub returns : goal.returns
returns c = record { law = counts_add_up }
