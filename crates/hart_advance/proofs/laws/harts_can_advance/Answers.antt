use Rattle.hart_advance.proofs.CanAdvance.{can-advance}
use Rattle.hart_advance.proofs.laws.harts_can_advance.Goals as goal

pub returns : goal.returns
returns c = record { can = can-advance }
