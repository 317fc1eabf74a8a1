-- What operands fill is in range.
use Rattle.std.proofs.Common.{option_copied}
use Rattle.asm_line.specs.Pieces.{texts_after}
use Rattle.asm_line.proofs.Range.{filled_range}
use Rattle.asm_line.proofs.reading.item_of_word.Goals as goal

pub item-requires : goal.item-requires
item-requires c =
    record { range = filled_range c.operands-2.result.now (texts_after (option_copied c.args.texts)) c.in-Ok.fields c.in-Ok.ensures.value }
