-- A full log, as contracts see it.
use Rattle.std.specs.Prelude.{ℕ, List}
use Rattle.hart_model.specs.declared.probe.Probe.{Probe}

-- how many more entries there is room for, and the entries
pub record Kept : Type 0 where
  pub room : ℕ
  pub entries : List Probe
