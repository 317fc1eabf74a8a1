-- Both directions.
use Rattle.rv_loader.proofs.Outcomes.{valid_of, loads}
use Rattle.rv_loader.proofs.laws.loads_exactly_valid.Goals as goal

pub returns : goal.returns
returns c = record { law = record { valid_loads = loads; loaded_valid = valid_of } }
