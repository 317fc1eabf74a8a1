-- The lines so far are copied.
use Rattle.std.proofs.Common.{◌≡◌, take}
use Rattle.rv_asm.specs.Listing.{texts}
use Rattle.rv_loader.proofs.coding.copied.Given as goal

abbrev pub invariant-loop-line : goal.invariant-loop-line
invariant-loop-line l = texts l.copies.items ≡ take l.line-index l.lines
