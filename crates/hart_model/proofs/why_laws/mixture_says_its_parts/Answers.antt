use Rattle.hart_model.proofs.Mixtures.{mixture_says_its_parts}
use Rattle.hart_model.proofs.why_laws.mixture_says_its_parts.Goals as goal

pub returns : goal.returns
returns c = record { law = mixture_says_its_parts }
