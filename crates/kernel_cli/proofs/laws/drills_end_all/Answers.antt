use Rattle.kernel_cli.proofs.DrillEnds.{drills-end}
use Rattle.kernel_cli.proofs.laws.drills_end_all.Goals as goal

pub returns : goal.returns
returns c = record { ended = drills-end c.loading_is_sound.ensures.law }
