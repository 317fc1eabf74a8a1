-- Where the words stand that a write reaches (this project's own).
use Rattle.std.specs.Prelude.{Bool, true, false, Option}
use Rattle.hart_model.specs.Cells.{Bases}
use Rattle.hart_model.specs.Context.{ContextState}
use Rattle.hart_model.specs.HartState.{bases_of}
use Rattle.hart_model.specs.MachineStep.{machine_bases}

-- those of the slot that is held and, in user mode, of the data too
abbrev pub reached_bases : Bool → Option ContextState → Bases
reached_bases true held = bases_of held
reached_bases false held = machine_bases held
