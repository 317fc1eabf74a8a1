use Rattle.order_laws.proofs.WholeShares.{shares-whole}
use Rattle.order_laws.proofs.laws.shares_make_up_logs.Goals as goal

pub returns : goal.returns
returns c = record { shares = shares-whole }
