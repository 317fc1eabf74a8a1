use Rattle.noninterference.proofs.BothStand.{alike-logs-agree}
use Rattle.noninterference.proofs.laws.alike_logs_agree.Goals as goal

pub returns : goal.returns
returns c = record { agree = alike-logs-agree }
