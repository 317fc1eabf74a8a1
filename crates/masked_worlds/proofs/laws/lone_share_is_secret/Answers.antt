use Rattle.masked_worlds.proofs.Come.{lone-share}
use Rattle.masked_worlds.proofs.laws.lone_share_is_secret.Goals as goal

pub returns : goal.returns
returns c = record { law = lone-share }
