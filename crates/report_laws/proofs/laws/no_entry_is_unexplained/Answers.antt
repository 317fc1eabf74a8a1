use Rattle.report_laws.proofs.Explained.{none-unexplained}
use Rattle.report_laws.proofs.laws.no_entry_is_unexplained.Goals as goal

pub returns : goal.returns
returns c = record { none = none-unexplained }
