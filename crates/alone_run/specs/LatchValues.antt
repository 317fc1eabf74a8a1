-- The values that the latches of the code hold.
use Rattle.std.specs.Prelude.{◌≡◌, ℕ, ◌%◌, length, slice_index, unwrap_or, Bool, true, false, not, ◌&&◌, ◌==◌, if◌then◌else◌}
use Rattle.isa_model.specs.declared.latch.Latch.{Latch}
use Rattle.isa_model.specs.declared.latch.Latch.TheVariants as latches
use Rattle.isa_model.specs.declared.task.Task.{Task}
use Rattle.isa_model.specs.Alone.{is_data_address}
use Rattle.rv_effect.specs.declared.writes.UnitWrite.{UnitWrite}
use Rattle.rv_effect.specs.declared.writes.UnitWrite.TheVariants.{Stores, Scratches}
use Rattle.alone_run.specs.DataWords.{data_word}
use Rattle.alone_run.specs.declared.latches.Latches.{Latches}

-- the value of a latch, and 0 for one that the task hasn't: mscratch, and an address that isn't one of its data words
abbrev pub latch_value : Latches → Latch → ℕ
latch_value m (latches.Reg r) = slice_index m.regs r
latch_value m latches.PortA = m.port_a
latch_value m latches.PortB = m.port_b
latch_value m latches.Res = m.res
latch_value m latches.Load = m.load
latch_value m latches.Store = m.store
latch_value m latches.Scr = 0
latch_value m latches.Mul = m.mul
latch_value m (latches.Mem at) = if at % 4 == 0 then unwrap_or (data_word m.memory at) 0 else 0

-- whether a task has a latch: it lacks x0, mscratch, and an address that isn't the one of a data word
abbrev pub has_latch : Task → Latch → Bool
has_latch T (latches.Reg r) = not (r == 0)
has_latch T latches.Scr = false
has_latch T (latches.Mem at) = is_data_address T at && (at % 4 == 0)
has_latch T _ = true

-- latches that have these values, with x0 at 0 and the data of this task
pub record Holds (T : Task) (m : Latches) (value : Latch → ℕ) : Type 0 where
  pub values : (l : Latch) → latch_value m l ≡ value l
  pub zero : slice_index m.regs 0 ≡ 0
  pub data_at : m.memory.at ≡ T.data_at
  pub data_len : length m.memory.words ≡ T.data_len
  pub aligned : T.data_at % 4 ≡ 0

-- what a unit writes is the task's: a word of its data, and not mscratch
abbrev pub IsOwnUnit : Task → UnitWrite → Type 0
IsOwnUnit T (Stores value at word) = is_data_address T at ≡ true
IsOwnUnit T (Scratches v) = ⊥
IsOwnUnit T unit = Unit {0}
