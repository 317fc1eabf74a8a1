-- By what the run is decided as.
use Rattle.bundle_text.proofs.RunLaws.{order_decided}
use Rattle.bundle_text.proofs.laws.order_runs_are_decided.Goals as goal

pub returns : goal.returns
returns c = record {
  run = λ text. (order_decided text).value;
  bad_number = λ text. (order_decided text).bad_number;
  out_of_range = λ text. (order_decided text).out_of_range;
}
