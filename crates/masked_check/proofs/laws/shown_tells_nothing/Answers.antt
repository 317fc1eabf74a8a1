use Rattle.masked_check.proofs.Tells.{shown-tells-nothing}
use Rattle.masked_check.proofs.laws.shown_tells_nothing.Goals as goal

pub returns : goal.returns
returns c = record { law = shown-tells-nothing }
