-- By the run of each chain.
use Rattle.chain_laws.proofs.Generated.{chains_put_out}
use Rattle.chain_laws.proofs.chains_are_put_out.Goals as goal

pub returns : goal.returns
returns c = record { law = chains_put_out }
