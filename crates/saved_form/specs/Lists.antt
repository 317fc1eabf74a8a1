-- The tasks of each list of the board.
use Rattle.std.specs.Prelude.{Bool}
use Rattle.saved_form.specs.declared.read_lists.TaskList.{TaskList}
use Rattle.saved_form.specs.declared.read_lists.TaskList.TheVariants.{Waiting, Ready, Ended}
use Rattle.saved_form.specs.Saved.{SavedTask}
use Rattle.saved_form.specs.Ranges.{waits, is_ready_in, ended}

abbrev pub belongs_to : TaskList → SavedTask → Bool
belongs_to Waiting t = waits t
belongs_to (Ready band) t = is_ready_in band t
belongs_to Ended t = ended t
