-- The output of a task, and how many words it has at most.
use Rattle.std.specs.Prelude.{ℕ, List}

pub record OutputWords : Type 0 where
  pub words : List ℕ
  pub max : ℕ
