-- Where tasks lie (this project's own memory map), and which tasks there are.
use Rattle.std.specs.Prelude.{◌≡◌, ℕ, ◌+◌, ◌*◌, ◌%◌, ◌^◌, ◌≤◌, ◌⊎◌, length}
use Rattle.isa_model.specs.declared.task.Task.{Task}
use Rattle.isa_model.specs.Limits.{max_code_words, max_data_words, max_tape_words, max_output_words, max_fuel}

-- the address of the code of task number t
abbrev pub code_place : ℕ → ℕ
code_place t = 0x100000 + 0x10000 * t

-- the address of its data
abbrev pub data_place : ℕ → ℕ
data_place t = 0x108000 + 0x10000 * t

-- A task that a run may be asked of: its places are multiples of 4, its code and data lie in the address space, apart from
-- each other and above the places of the kernel and its devices, and its numbers are within their limits.
pub record IsValidTask (T : Task) : Type 0 where
  pub code_aligned : T.code_at % 4 ≡ 0
  pub data_aligned : T.data_at % 4 ≡ 0
  pub code_above : 0x100000 ≤ T.code_at
  pub data_above : 0x100000 ≤ T.data_at
  pub code_end : T.code_at + 4 * length T.code ≤ 2 ^ 32
  pub data_end : T.data_at + 4 * T.data_len ≤ 2 ^ 32
  pub apart : (T.code_at + 4 * length T.code ≤ T.data_at) ⊎ (T.data_at + 4 * T.data_len ≤ T.code_at)
  pub code_limit : length T.code ≤ max_code_words
  pub data_limit : T.data_len ≤ max_data_words
  pub fuel_least : 1 ≤ T.fuel
  pub fuel_limit : T.fuel ≤ max_fuel
  pub out_limit : T.out_max ≤ max_output_words
  pub tape_limit : length T.tape ≤ max_tape_words
