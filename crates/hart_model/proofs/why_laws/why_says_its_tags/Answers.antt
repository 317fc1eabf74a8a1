use Rattle.hart_model.proofs.WhyTells.{why_says_its_tags}
use Rattle.hart_model.proofs.why_laws.why_says_its_tags.Goals as goal

pub returns : goal.returns
returns c = record { law = why_says_its_tags }
