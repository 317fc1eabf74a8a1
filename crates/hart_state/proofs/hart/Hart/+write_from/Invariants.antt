use Rattle.std.proofs.Common.{◌-◌, length}
use Rattle.hart_state.proofs.hart.Hart.+write_from.Given as goal

abbrev pub decreases-write_from : goal.decreases-write_from
decreases-write_from g l = length l.writes.now - l.from
