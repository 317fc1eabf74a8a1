-- The last read took one more piece, and the one that passes the limit exactly one byte more.
use Rattle.std.proofs.Common.{◌+◌, arith, length-append, length-take, take}
use Rattle.std.proofs.KnownBytes.{Consumes-trans}
use Rattle.io_edge.proofs.Fronts.{front_taken, past_limit}
use Rattle.io_edge.proofs.whole.read_all.Goals as goal

pub returns-then-count-room-clause-too_large : goal.returns-then-count-room-clause-too_large
returns-then-count-room-clause-too_large g c _ =
    past_limit _ _ _ c.args.limit
    (Consumes-trans _ _ _ _ (take c.in-Ok.count c.read.new.buf) c.loop-bytes.invariant.took c.in-Ok.ensures.bytes.0)
    (omega (arith, length-append c.loop-bytes.bytes.items (take c.in-Ok.count c.read.new.buf), length-take c.in-Ok.count c.read.new.buf, length-take (c.min-want.result + 1) c.loop-bytes.piece, c.in-Ok.ensures.bound))

pub returns-then-count-room-clause-taken : goal.returns-then-count-room-clause-taken
returns-then-count-room-clause-taken g c =
    front_taken _ _ _ c.loop-bytes.bytes.items (take c.in-Ok.count c.read.new.buf) _ c.loop-bytes.invariant.took c.in-Ok.ensures.bytes.0
    (omega (arith, length-take c.in-Ok.count c.read.new.buf, length-take (c.min-want.result + 1) c.loop-bytes.piece, c.in-Ok.ensures.bound))

pub returns-in_err-extend_from_slice-in-Ok-clause-taken :
    goal.returns-in_err-extend_from_slice-in-Ok-clause-taken
returns-in_err-extend_from_slice-in-Ok-clause-taken g c =
    front_taken _ _ _ c.loop-bytes.bytes.items (take c.in-Ok.count c.read.new.buf) _ c.loop-bytes.invariant.took c.in-Ok.ensures.bytes.0
    (omega (arith, length-take c.in-Ok.count c.read.new.buf, c.in-Ok.ensures.bound))
