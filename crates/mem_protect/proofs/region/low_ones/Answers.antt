use Rattle.std.proofs.Common.{◌∙◌}
use Rattle.mem_protect.proofs.LowOnes.{count_of_complement, low_ones-least}
use Rattle.mem_protect.proofs.region.low_ones.Goals as goal

pub returns-clause-value : goal.returns-clause-value
returns-clause-value c = c.trailing_ones.ensures ∙ count_of_complement 32 c.args.word c.ranges.word.fits

pub returns-clause-least : goal.returns-clause-least
returns-clause-least c =
    let value = c.trailing_ones.ensures ∙ count_of_complement 32 c.args.word c.ranges.word.fits in
    rw value (low_ones-least 32 c.args.word)
