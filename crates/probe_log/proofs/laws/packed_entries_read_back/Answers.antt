use Rattle.probe_log.proofs.ReadsBack.{reads_back}
use Rattle.probe_log.proofs.laws.packed_entries_read_back.Goals as goal

pub returns : goal.returns
returns c = record { law = reads_back }
