-- A machine after an instruction.
use Rattle.std.proofs.Common.{◌≡◌, ℕ, List}
use Rattle.isa_model.specs.declared.latch.Latch.{Latch}
use Rattle.isa_model.specs.Alone.{AloneState}
use Rattle.tape_terms.specs.declared.term.Term.{Term}
use Rattle.masked_run.specs.declared.latches.Latches.{Latches}
use Rattle.masked_run.specs.declared.machine.Machine.{Machine}
use Rattle.masked_run.specs.Places.{term_at, Denote}
use Rattle.masked_run.specs.Standing.{StandsFor}

-- other latches and another pc
pub stands-on : (old new : List Term) (tape : List ℕ) (s : AloneState) (m : Machine) (after : Latches) (value : Latch → ℕ) (pc next : ℕ) → StandsFor old tape s m
    → Denote new tape (term_at after) value → pc ≡ next → StandsFor new tape (record s { value = value; pc = next }) (record m { latches = after; pc = pc })
stands-on old new tape s m after value pc next h is goes = record { values = is; pc = goes; output = h.output; tape_at = h.tape_at; end = h.end }
