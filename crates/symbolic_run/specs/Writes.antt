-- What writes do of which abstract writes speak (this project's own).
use Rattle.std.specs.Prelude.{◌≡◌, List, [], ◌∷◌, All}
use Rattle.core_model.specs.Explained.{IsExplained}
use Rattle.hart_model.specs.HartState.{cells_of}
use Rattle.hart_model.specs.Writes.{CellWrite, HartAndProbes}
use Rattle.symbolic_run.specs.AbstractCell.{AbstractState}
use Rattle.symbolic_run.specs.AbstractEffect.{AbstractWrite}
use Rattle.symbolic_run.specs.Concretization.{Valuation, Denotes, IsDenotedBy}

-- abstract writes say of as many writes where they go, and something of their cells
abbrev pub WritesDenote : Valuation → List AbstractWrite → List CellWrite → Type 0
WritesDenote s [] [] = Unit {0}
WritesDenote s [] (w ∷ ws) = ⊥
WritesDenote s (a ∷ abstract) [] = ⊥
WritesDenote s (a ∷ abstract) (w ∷ ws) = (w.at ≡ a.at) × Denotes s a.cell w.cell × WritesDenote s abstract ws

-- a hart of which a state speaks, with explained entries
pub record IsDoneBy (s : Valuation) (a : AbstractState) (after : HartAndProbes) : Type 0 where
  pub denoted : IsDenotedBy s a (cells_of after.hart)
  pub explained : All (IsExplained s.tasks) after.probes
