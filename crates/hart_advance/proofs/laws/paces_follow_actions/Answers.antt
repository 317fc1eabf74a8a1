use Rattle.hart_advance.proofs.CanAdvance.{paces-follow}
use Rattle.hart_advance.proofs.laws.paces_follow_actions.Goals as goal

pub returns : goal.returns
returns c = record { paces = paces-follow }
