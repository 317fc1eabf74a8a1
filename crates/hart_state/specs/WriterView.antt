-- What contracts see of who writes: the tags of the writes, and where they go (this project's own).
use Rattle.std.specs.Prelude.{Bool, true, false, List, Option}
use Rattle.isa_model.specs.Effect.{Write}
use Rattle.hart_model.specs.declared.tag.Tag.{Tag}
use Rattle.hart_model.specs.declared.tag.Tag.TheVariants.{Of}
use Rattle.hart_model.specs.Taint.{machine_tag}
use Rattle.hart_model.specs.Context.{ContextState}
use Rattle.hart_model.specs.HartState.{HartState}
use Rattle.hart_model.specs.MachineStep.{OperandCells, operand_tag}
use Rattle.hart_model.specs.Writes.{CellWrite, HartAndProbes, cell_writes, after_writes}
use Rattle.hart_state.specs.declared.writer.OperandCells.{OperandCells as CodeCells}
use Rattle.hart_state.specs.declared.writer.Writer.{Writer}
use Rattle.hart_state.specs.declared.writer.Writer.TheVariants.{User, Machine}
use Rattle.hart_state.specs.Reached.{reached_bases}

abbrev pub operand_cells_of : CodeCells → OperandCells
operand_cells_of o = record { rs1 = o.rs1; rs2 = o.rs2; word = o.word; old_csr = o.old_csr }

-- the tag of a write: in user mode that of the task's step and of its latch, in machine mode by what flows into it
abbrev pub tag_by : Writer → Write → Tag
tag_by (User task step) w = Of task step w.to
tag_by (Machine cells) w = machine_tag (operand_tag (operand_cells_of cells)) w.flow

abbrev pub reaches_data : Writer → Bool
reaches_data (User task step) = true
reaches_data (Machine cells) = false

-- the cells that go to places by these writes, on a hart that holds this
abbrev pub writes_by : Writer → Option ContextState → List Write → List CellWrite
writes_by who held ws = cell_writes (reached_bases (reaches_data who) held) (tag_by who) ws

-- the hart after these writes, and their entries
abbrev pub after_writes_by : Writer → List Write → HartState → HartAndProbes
after_writes_by who ws h = after_writes (writes_by who h.held ws) h
