-- The first receipt that is of want of memory.
use Rattle.std.proofs.Common.{sym, ◌∙◌, arith}
use Rattle.std.proofs.lemmas.Option.{slice_get_within}
use Rattle.hart_runner.proofs.closing.first_retired.Goals as goal

pub unreachable-requires : goal.unreachable-requires
unreachable-requires c =
    let some = c.requires.some in
    let low = slice_get_within c.args.receipts.now some.0 some.1.receipt some.1.at in
    let end = c.loop-hart-test.false in
    let empty = c.loop-hart.invariant some.0 some.1.receipt (omega (arith, low, end)) some.1.at in
    cc (sym empty ∙ some.1.cause)
