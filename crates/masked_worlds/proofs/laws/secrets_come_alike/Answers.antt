use Rattle.masked_worlds.proofs.Come.{secrets-come}
use Rattle.masked_worlds.proofs.laws.secrets_come_alike.Goals as goal

pub returns : goal.returns
returns c = record { law = secrets-come }
