-- What holds of contexts. It is the contract of a law in `src/laws.rt`.
use Rattle.std.specs.Prelude.{◌≡◌, ℕ, List, length}
use Rattle.isa_model.specs.declared.task.Task.{Task}
use Rattle.hart_model.specs.declared.tag.Cell.{Cell}
use Rattle.hart_model.specs.Context.{slot_len, fresh_body, admit_of, StandsForTask}
use Rattle.context_slot.specs.Fresh.{HasBlankRegisters}

-- A task at its start that is admitted into a slot stands for itself at its count, which is 0.
abbrev pub AdmittedStandsForTask : Type 0
AdmittedStandsForTask = (task_no slot : ℕ) (T : Task) (words : List Cell) → length words ≡ slot_len → HasBlankRegisters words →
    StandsForTask (admit_of (fresh_body task_no T) slot words) T
