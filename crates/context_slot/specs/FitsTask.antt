-- What a body keeps of a task, against the task (this project's own).
use Rattle.std.specs.Prelude.{◌≡◌, ℕ, ◌≤◌, length}
use Rattle.isa_model.specs.declared.task.Task.{Task}
use Rattle.isa_model.specs.TaskPlaces.{IsValidTask}
use Rattle.mem_bank.specs.Bank.{CellBank}
use Rattle.context_slot.specs.Output.{OutputWords}

-- a valid task; a bank of its data words, at their address; its maximum of output; and a tape position that its tape has, or its end
pub record FitsTask (T : Task) (bank : CellBank) (output : OutputWords) (tape_at : ℕ) : Type 0 where
  pub valid : IsValidTask T
  pub data_at : bank.base ≡ T.data_at
  pub data_len : length bank.cells ≡ T.data_len
  pub out_max : output.max ≡ T.out_max
  pub on_tape : tape_at ≤ length T.tape
