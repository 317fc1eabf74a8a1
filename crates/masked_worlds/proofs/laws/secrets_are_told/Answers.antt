use Rattle.masked_worlds.proofs.Come.{secrets-are-told}
use Rattle.masked_worlds.proofs.laws.secrets_are_told.Goals as goal

pub returns : goal.returns
returns c = record { law = secrets-are-told }
