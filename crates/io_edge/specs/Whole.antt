-- What a whole write says of a fault.
use Rattle.std.specs.Prelude.{ℕ}
use Rattle.io_edge.specs.declared.whole.WriteEnd.{WriteEnd}
use Rattle.io_edge.specs.declared.whole.WriteEnd.TheVariants.{WriteFault}

-- P holds of the number of bytes that were written before the fault.
abbrev pub IfWriteFault : WriteEnd → (ℕ → Type 0) → Type 0
IfWriteFault (WriteFault gone) P = P gone
