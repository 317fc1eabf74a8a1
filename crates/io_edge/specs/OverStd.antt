-- A source over a reader of std and a sink over a writer of std, as contracts see them.
use Rattle.std.specs.Prelude.{ℕ, Bool, List, Option}

-- The bytes that the reader has left, where it tells them, the bytes that were given, whether the last read met the end, and how many
-- faults were counted.
pub record CountedReader : Type 0 where
  pub left : Option (List ℕ)
  pub given : List ℕ
  pub ended : Bool
  pub faults : ℕ

-- The bytes that the writer holds, where it tells them, the bytes that were taken, and how many faults were counted.
pub record CountedWriter : Type 0 where
  pub held : Option (List ℕ)
  pub taken : List ℕ
  pub faults : ℕ
