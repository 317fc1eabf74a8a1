-- What tasks end with, each by itself.
use Rattle.std.specs.Prelude.{List, map, unwrap_or}
use Rattle.isa_model.specs.declared.ends.End.TheVariants.{OutOfSteps}
use Rattle.isa_model.specs.declared.task.Task.{Task}
use Rattle.isa_model.specs.Alone.{last_of, count_of}
use Rattle.alone_run.specs.declared.running.Ended.{Ended}

-- What a task ends with when it runs alone. A task with fuel has an end after its last instruction: out of steps, where
-- there is no other.
abbrev pub ended_of : Task → Ended
ended_of T = record { end = unwrap_or (last_of T).end OutOfSteps; count = count_of T; output = (last_of T).output }

abbrev pub ends_of : List Task → List Ended
ends_of tasks = map ended_of tasks
