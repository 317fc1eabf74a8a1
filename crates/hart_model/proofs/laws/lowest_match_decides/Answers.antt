use Rattle.hart_model.proofs.PmpLaws.{lowest_decides, unmatched_fails}
use Rattle.hart_model.proofs.laws.lowest_match_decides.Goals as goal

pub returns : goal.returns
returns c = record { law = lowest_decides; unmatched = unmatched_fails }
