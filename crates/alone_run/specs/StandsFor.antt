-- When a machine of the code stands for a state of the run alone, and what it leaves.
use Rattle.std.specs.Prelude.{◌≡◌, Some}
use Rattle.isa_model.specs.declared.control.Deed.{Deed}
use Rattle.isa_model.specs.declared.instr.Instr.{Instr}
use Rattle.isa_model.specs.declared.task.Task.{Task}
use Rattle.isa_model.specs.Alone.{AloneState, Executed, after_decode}
use Rattle.alone_run.specs.LatchValues.{Holds}
use Rattle.alone_run.specs.declared.machine.Machine.{Machine}

pub record StandsFor (T : Task) (s : AloneState) (m : Machine) : Type 0 where
  pub latches : Holds T m.latches s.value
  pub pc : m.pc ≡ s.pc
  pub output : m.output.words ≡ s.output
  pub output_max : m.output.max ≡ T.out_max
  pub tape_at : m.tape_at ≡ s.tape_at
  pub end : m.end ≡ s.end

-- a machine and a deed that are what an instruction leaves
pub record Leaves (T : Task) (e : Executed) (made : Deed) (m : Machine) : Type 0 where
  pub state : StandsFor T e.state m
  pub deed : made ≡ e.deed

-- An instruction that a machine does: whatever state the machine stood for, it stands for what the instruction leaves of it.
abbrev pub Performs : Task → Instr → Machine → Deed → Machine → Type 0
Performs T instr old made new = (s : AloneState) → StandsFor T s old → Leaves T (after_decode T (Some instr) s) made new
