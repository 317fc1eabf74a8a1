-- The lines so far are read, and what is left decides.
use Rattle.std.proofs.Common.{◌+◌, drop}
use Rattle.rv_asm.proofs.Reading.{AreRead}
use Rattle.rv_asm.proofs.listing.read_listing.Given as goal

abbrev pub invariant-loop-index : goal.invariant-loop-index
invariant-loop-index l = AreRead l.lines l.first_line l.listing l.places (l.first_line + l.index) l.place (drop l.index l.lines)
