use Rattle.std.proofs.Common.{◌-◌, length}
use Rattle.scrub_rules.proofs.storage.Storage.+follow_from.Given as goal

abbrev pub decreases-follow_from : goal.decreases-follow_from
decreases-follow_from l = length l.words.now - l.from
