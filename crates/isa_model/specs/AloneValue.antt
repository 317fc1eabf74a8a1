-- The values that latches have in the run alone, and their changes: all that a probe may show of a task.
use Rattle.std.specs.Prelude.{ℕ, ◌+◌}
use Rattle.isa_model.specs.declared.latch.Latch.{Latch}
use Rattle.isa_model.specs.declared.task.Task.{Task}
use Rattle.isa_model.specs.Alone.{alone_at}

-- the value of a latch after n instructions, and 0 for a latch that the task hasn't
abbrev pub alone_value : Task → ℕ → Latch → ℕ
alone_value T n l = (alone_at T n).value l

-- its value before and after instruction n
abbrev pub alone_change : Task → ℕ → Latch → ℕ × ℕ
alone_change T n l = (alone_value T n l, alone_value T (n + 1) l)
