-- They are valid bundles.
use Rattle.chain_laws.proofs.Generated.{generated_loads}
use Rattle.chain_laws.proofs.generated_bundles_load.Goals as goal

pub returns : goal.returns
returns c = record { law = generated_loads }
