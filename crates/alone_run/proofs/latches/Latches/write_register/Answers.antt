-- The register is written, unless it is x0.
use Rattle.alone_run.proofs.latches.Latches.write_register.Goals as goal

pub returns-in-Some : goal.returns-in-Some
returns-in-Some c = record { held = λ T v h. rw c.in-Some.is (c.write_reg.ensures.held T v _ h) }
