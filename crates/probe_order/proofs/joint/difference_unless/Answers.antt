-- They are alike.
use Rattle.probe_order.proofs.joint.difference_unless.Goals as goal

pub returns-then-alike : goal.returns-then-alike
returns-then-alike c = record { found = c.requires.alike c.if-alike.true }
