use Rattle.order_laws.proofs.Shares.{shares-stay}
use Rattle.order_laws.proofs.laws.shares_stay.Goals as goal

pub returns : goal.returns
returns c = record { shares = shares-stay }
