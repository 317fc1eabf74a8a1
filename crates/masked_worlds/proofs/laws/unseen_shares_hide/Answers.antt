use Rattle.masked_worlds.proofs.Silent.{apart-tells-nothing}
use Rattle.masked_worlds.proofs.laws.unseen_shares_hide.Goals as goal

pub returns : goal.returns
returns c = record { law = apart-tells-nothing }
