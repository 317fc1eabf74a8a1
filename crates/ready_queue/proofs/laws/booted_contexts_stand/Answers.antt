use Rattle.ready_queue.proofs.Booting.{booted-can}
use Rattle.ready_queue.proofs.laws.booted_contexts_stand.Goals as goal

pub returns : goal.returns
returns c = record { law = booted-can }
