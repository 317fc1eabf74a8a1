use Rattle.hart_model.proofs.PlacesHaveLatches.{places_have_latches}
use Rattle.hart_model.proofs.place_laws.places_have_latches.Goals as goal

pub returns : goal.returns
returns c = record { law = places_have_latches }
