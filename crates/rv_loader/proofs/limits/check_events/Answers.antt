-- Each run comes at most 2^20 times, and there are fewer than 2^32 runs.
use Rattle.rv_loader.proofs.Counts.{event_count_fits}
use Rattle.rv_loader.proofs.limits.check_events.Goals as goal

pub event_count-requires : goal.event_count-requires
event_count-requires c = record { fits = event_count_fits c.args.runs.now c.requires.short c.requires.range }
