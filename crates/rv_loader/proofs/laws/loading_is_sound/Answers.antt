-- By what lies behind it.
use Rattle.rv_loader.proofs.Within.{loading_sound}
use Rattle.rv_loader.proofs.laws.loading_is_sound.Goals as goal

pub returns : goal.returns
returns c = record { law = loading_sound }
