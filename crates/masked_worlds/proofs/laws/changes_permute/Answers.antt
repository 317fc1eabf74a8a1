use Rattle.masked_worlds.proofs.Permute.{changes-permute}
use Rattle.masked_worlds.proofs.laws.changes_permute.Goals as goal

pub returns : goal.returns
returns c = record { law = changes-permute }
