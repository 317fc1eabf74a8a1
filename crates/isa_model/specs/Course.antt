-- What others see of a run alone, and when two runs take one course (this project's own).
use Rattle.std.specs.Prelude.{◌≡◌, ℕ, Option, Some, None, is_none, if◌then◌else◌}
use Rattle.isa_model.specs.declared.control.Deed.{Deed}
use Rattle.isa_model.specs.declared.task.Task.{Task}
use Rattle.isa_model.specs.Alone.{alone_at, after_instr, last_of}
use Rattle.isa_model.specs.Control.{control_of}

-- What others see of a run alone at step n: the pc, and, unless it has ended, the deed of its next instruction.
pub record Sight : Type 0 where
  pub pc : ℕ
  pub deed : Option Deed

abbrev pub sight_at : Task → ℕ → Sight
sight_at T n = record { pc = (alone_at T n).pc; deed = if is_none (alone_at T n).end then Some (after_instr T (alone_at T n)).deed else None }

-- Two runs alone take one course: they have one control, and stand at one pc at their end. No item of a control tells where the last
-- instruction goes on to, and a task whose fuel is used stops there.
pub record TakeOneCourse (T U : Task) : Type 0 where
  pub control : control_of T ≡ control_of U
  pub last_pc : (last_of T).pc ≡ (last_of U).pc
