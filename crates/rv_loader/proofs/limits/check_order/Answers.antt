-- Each run comes at most 2^20 times, and there are fewer than 2^32 runs.
use Rattle.rv_loader.proofs.Counts.{entry_count_fits}
use Rattle.rv_loader.proofs.limits.check_order.Goals as goal

pub entry_count-requires : goal.entry_count-requires
entry_count-requires c = record { fits = entry_count_fits c.args.runs.now c.requires.short c.requires.range }
