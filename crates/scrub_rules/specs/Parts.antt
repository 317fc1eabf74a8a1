-- The two parts of a routine (this project's own).
use Rattle.std.specs.Prelude.{ℕ, ◌≤◌, List, length}
use Rattle.core_model.specs.Routines.{Saves, Restores, part_limit}

pub record Parts : Type 0 where
  pub save : List ℕ
  pub restore : List ℕ

-- Either part is short enough, and the one saves and the other restores.
pub record DoTheirWork (p : Parts) : Type 0 where
  pub save_few : length p.save ≤ part_limit
  pub restore_few : length p.restore ≤ part_limit
  pub saves : Saves p.save
  pub restores : Restores p.restore
