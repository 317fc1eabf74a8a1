-- A mark of a run alone, and the machine that goes on from it.
use Rattle.std.specs.Prelude.{◌≡◌, ℕ}
use Rattle.isa_model.specs.declared.task.Task.{Task}
use Rattle.alone_run.specs.IsAt.{IsAt}
use Rattle.alone_run.specs.declared.machine.Machine.{Machine}
use Rattle.alone_run.specs.declared.marks.Mark.{Mark}

-- the machine that a mark has, where the output has at most so many words
abbrev pub machine_of : ℕ → Mark → Machine
machine_of out_max m = record { latches = m.latches; pc = m.pc; output = record { words = m.output; max = out_max }; tape_at = m.tape_at; end = m.end }

-- A mark of the run of a task after n instructions: its machine is one after n instructions.
pub record IsMarkOf (T : Task) (n : ℕ) (m : Mark) : Type 0 where
  pub count : m.count ≡ n
  pub at : IsAt T n (machine_of T.out_max m)
