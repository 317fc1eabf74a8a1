-- Events, and entries of an order.
use Rattle.core_model.proofs.Runs.{length-runs}
use Rattle.core_model.proofs.laws.counts_are_lengths.Goals as goal

pub returns : goal.returns
returns c = record {
  law = record {
    events = length-runs (λ run. run.times) (λ run. run.event);
    entries = length-runs (λ run. run.times) (λ run. run.hart);
  };
}
