-- The data words of a task, and the address of the first one.
use Rattle.std.specs.Prelude.{ℕ, ◌-◌, ◌/◌, List, Option, None, slice_get, slice_set, nat_le, if◌then◌else◌}

pub record DataWords : Type 0 where
  pub at : ℕ
  pub words : List ℕ

-- the index of the word that an address lies in
abbrev pub data_index : DataWords → ℕ → ℕ
data_index d at = (at - d.at) / 4

-- the word that an address lies in
abbrev pub data_word : DataWords → ℕ → Option ℕ
data_word d at = if nat_le d.at at then slice_get d.words (data_index d at) else None

-- the data with another word where an address lies
abbrev pub with_data_word : ℕ → ℕ → DataWords → DataWords
with_data_word at word d = record d { words = slice_set d.words (data_index d at) word }
