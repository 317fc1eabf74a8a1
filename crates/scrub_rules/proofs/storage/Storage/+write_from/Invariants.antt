use Rattle.std.proofs.Common.{◌-◌, length}
use Rattle.scrub_rules.proofs.storage.Storage.+write_from.Given as goal

abbrev pub decreases-write_from : goal.decreases-write_from
decreases-write_from l = length l.writes.now - l.from
