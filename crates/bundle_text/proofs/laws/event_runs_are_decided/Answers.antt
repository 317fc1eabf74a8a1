-- By what the run is decided as.
use Rattle.bundle_text.proofs.RunLaws.{event_decided}
use Rattle.bundle_text.proofs.laws.event_runs_are_decided.Goals as goal

pub returns : goal.returns
returns c = record {
  run = λ text. (event_decided text).value;
  bad_number = λ text. (event_decided text).bad_number;
  out_of_range = λ text. (event_decided text).out_of_range;
}
