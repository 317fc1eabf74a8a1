-- What an entry of the log shows of the undisturbed run of a task (this project's own).
use Rattle.std.specs.Prelude.{ℕ, List, Option, Some, None, slice_get}
use Rattle.isa_model.specs.declared.latch.Latch.{Latch}
use Rattle.isa_model.specs.declared.task.Task.{Task}
use Rattle.isa_model.specs.AloneValue.{alone_value, alone_change}
use Rattle.hart_model.specs.declared.probe.Why.{Why}
use Rattle.hart_model.specs.declared.probe.Why.TheVariants as whys
use Rattle.hart_model.specs.declared.probe.Probe.{Probe}
use Rattle.probe_inspect.specs.declared.shown.Shown.{Shown}
use Rattle.probe_inspect.specs.declared.shown.Shown.TheVariants.{Nothing, Value, Pair}

-- the value of a latch after n instructions
abbrev pub value_shown : Task → ℕ → Latch → Shown
value_shown T n l = Value (alone_value T n l)

-- its values before and after instruction n
abbrev pub change_shown : Task → ℕ → Latch → Shown
change_shown T n l = Pair (alone_change T n l).0 (alone_change T n l).1

-- the same of a task that may not be there
abbrev pub value_shown_of : Option Task → ℕ → Latch → Shown
value_shown_of None n l = Nothing
value_shown_of (Some T) n l = value_shown T n l

abbrev pub change_shown_of : Option Task → ℕ → Latch → Shown
change_shown_of None n l = Nothing
change_shown_of (Some T) n l = change_shown T n l

-- what a why names, where the tasks are numbered from 0
abbrev pub shown_by : List Task → Why → Shown
shown_by tasks whys.Public = Nothing
shown_by tasks (whys.Value task step latch side) = value_shown_of (slice_get tasks task) step latch
shown_by tasks (whys.Step task step latch) = change_shown_of (slice_get tasks task) step latch
shown_by tasks whys.Unexplained = Nothing

-- What a probe shows: the values that its why names.
abbrev pub shown_of : List Task → Probe → Shown
shown_of tasks probe = shown_by tasks probe.why
